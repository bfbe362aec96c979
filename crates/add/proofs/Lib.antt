pub mod Refusals
pub mod Unknown
pub mod Growing
pub mod Promises
