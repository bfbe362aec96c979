pub mod Window
pub mod Call
