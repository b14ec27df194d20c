pub mod Takings
pub mod Culprits
pub mod Groups
pub mod Promises
