pub mod Lagging
pub mod Noting
pub mod Members
pub mod Walking
pub mod Deciding
pub mod Clearing
