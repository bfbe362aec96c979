pub mod Signed
pub mod Codes
pub mod Entries
