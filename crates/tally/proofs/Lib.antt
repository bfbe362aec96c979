pub mod Values
pub mod Standing
pub mod Rings
pub mod Turned
pub mod Stretches
pub mod Blocks
pub mod Loads
