pub mod Divisors
pub mod Flat
mod Roles
pub mod MarginTable
mod GroupMargins
