-- What the code's own parts stand for, step by step. The contracts of these parts cite it, and those of no public call.
pub mod Counting
