pub mod Outcomes
pub mod Walking
pub mod Branches
pub mod Sides
pub mod Remembering
pub mod Starting
pub mod SideWalks
