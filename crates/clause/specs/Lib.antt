pub mod Reading
pub mod Finding
pub mod Clauses
pub mod Literals
