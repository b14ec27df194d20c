pub mod Found
pub mod CanBeTold
