pub mod Fill
pub mod Values
