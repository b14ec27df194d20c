pub mod Letters
pub mod Numbers
pub mod Seen
