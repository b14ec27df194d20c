pub mod Escapes
pub mod InOrder
pub mod Names
pub mod PieceList
pub mod Pieces
pub mod Shown
