-- Lemmas on the canonical text of prices.
pub mod Lines
pub mod Written
pub mod Steps
pub mod Fields
pub mod Law
pub mod ReadBack
pub mod StatedBack
