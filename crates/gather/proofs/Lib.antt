pub mod Written
pub mod Placed
pub mod Along
pub mod Waits
pub mod Collects
pub mod Gathers
pub mod Besides
pub mod Keeping
