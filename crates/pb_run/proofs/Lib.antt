pub mod Ahead
pub mod Endings
pub mod Loading
pub mod Stems
