pub mod Adding
pub mod InOrder
pub mod Plain
pub mod Texts
