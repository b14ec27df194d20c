pub mod Asking
pub mod Endings
pub mod Folders
pub mod Listings
pub mod Reporting
pub mod Runs
