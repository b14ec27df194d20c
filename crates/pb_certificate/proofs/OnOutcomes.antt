-- Lemmas on outcome files.
pub mod Texts
pub mod Clear
pub mod Answered
