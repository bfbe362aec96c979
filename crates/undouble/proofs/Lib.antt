pub mod Doubles
pub mod Signing
pub mod Undoubling
pub mod Along
