-- Lemmas on refutations.
pub mod Rows
pub mod Heads
pub mod Clear
pub mod Answered
pub mod Texts
