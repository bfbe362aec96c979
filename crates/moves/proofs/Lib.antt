pub mod Moves
pub mod Dying
pub mod Listed
