-- What the code's own parts stand for, step by step. The contracts of these parts cite it, as that of `gather`.
-- What a file states is said without it.
pub mod Prices
pub mod Marks
pub mod Outcomes
pub mod Violations
pub mod Refutations
