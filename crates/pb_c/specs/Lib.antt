pub mod Commands
pub mod Facts
pub mod Files
pub mod Reports
pub mod Whole
pub mod Groups
pub mod Kinds
pub mod Folders
