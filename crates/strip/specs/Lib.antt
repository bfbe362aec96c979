pub mod Decoding
pub mod Faults
