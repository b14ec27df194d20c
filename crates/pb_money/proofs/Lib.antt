pub mod Amounts
pub mod Fractions
pub mod Laws
pub mod Marks
pub mod Numbers
pub mod Parts
pub mod Wholes
