-- What the code's own parts stand for, step by step. The contracts of these parts cite it, and those of no public call.
pub mod Tallies
pub mod Noted
pub mod Looked
pub mod Reached
pub mod Tallying
