pub mod Outputs
pub mod Messages
pub mod Promises
pub mod Examples
