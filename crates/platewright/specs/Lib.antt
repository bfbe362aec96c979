pub mod Answer
pub mod Pass
pub mod Heads
