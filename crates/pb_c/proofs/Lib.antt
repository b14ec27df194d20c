pub mod Lent
pub mod Names
pub mod Reported
