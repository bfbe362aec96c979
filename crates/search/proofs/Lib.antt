pub mod Calling
pub mod Promises
