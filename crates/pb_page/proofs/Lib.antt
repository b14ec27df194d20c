pub mod Boxes
pub mod Groups
pub mod InTurn
pub mod Pages
pub mod Tells
