-- What the code's own parts stand for, step by step. The contracts of these parts cite it, as those of `Loaded` and
-- `election_of`. What an input states, and how an answer is made of it, is said without it.
pub mod Loaded
pub mod Taking
