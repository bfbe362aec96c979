pub mod Commands
pub mod Returned
