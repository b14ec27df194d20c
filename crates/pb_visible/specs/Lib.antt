pub mod Hidden
pub mod Joiners
pub mod Visible
