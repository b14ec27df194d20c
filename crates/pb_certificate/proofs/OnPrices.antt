-- Lemmas on price certificates.
pub mod Payments
pub mod Searches
pub mod Texts
pub mod RowSteps
pub mod Stated
pub mod Admitting
pub mod Rows
pub mod PlaceSteps
pub mod HeadSteps
pub mod ReaderSteps
pub mod SortedRuns
pub mod TurnSteps
pub mod GatherSteps
pub mod Clear
pub mod Answered
pub mod Canon
