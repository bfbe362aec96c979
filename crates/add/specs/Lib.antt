pub mod Add
pub mod Addable
