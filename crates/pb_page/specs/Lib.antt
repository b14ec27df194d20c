pub mod Answers
pub mod Groups
pub mod InTurn
pub mod Sums
pub mod Taken
