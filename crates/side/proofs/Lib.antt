pub mod Calm
pub mod Splitting
pub mod Beginning
