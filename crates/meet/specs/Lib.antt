pub mod Meeting
pub mod Looking
pub mod Places
