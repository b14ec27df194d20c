-- Lemmas on violation certificates.
pub mod Texts
pub mod Clear
pub mod Answered
