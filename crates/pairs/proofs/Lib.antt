pub mod Seeing
pub mod Touching
pub mod Chunks
pub mod Sides
