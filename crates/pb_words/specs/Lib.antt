pub mod Headlines
pub mod Languages
