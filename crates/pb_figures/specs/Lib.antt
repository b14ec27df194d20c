pub mod Amounts
pub mod Ranking
pub mod Told
