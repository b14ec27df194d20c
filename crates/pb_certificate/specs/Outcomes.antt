-- Outcome files. What an outcome is, is said in `Outcome` of `pb_election`.
pub mod Kind
pub mod Text
