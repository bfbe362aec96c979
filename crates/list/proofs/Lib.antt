pub mod Opens
pub mod Rows
pub mod Settling
pub mod Sides
pub mod Starting
pub mod Calling
pub mod Promises
pub mod SideRuns
