pub mod Short
pub mod Ready
pub mod Reading
pub mod Turning
