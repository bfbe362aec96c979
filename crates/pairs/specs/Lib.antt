pub mod Seen
pub mod Sides
