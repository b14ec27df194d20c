pub mod ProjectMargins
pub mod Named
pub mod Plain
pub mod Shown
