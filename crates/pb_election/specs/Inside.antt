-- What the code's own parts stand for, step by step, and which `Instance` an `Election` is seen as. What a file states
-- is said without it.
pub mod Ids
pub mod SoFar
pub mod Beginnings
pub mod ProjectRows
pub mod ElectionView
