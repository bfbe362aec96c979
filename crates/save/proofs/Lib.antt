pub mod Elements
pub mod Calling
pub mod RoundTrip
pub mod Promises
