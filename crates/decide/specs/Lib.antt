pub mod Members
pub mod Clearing
