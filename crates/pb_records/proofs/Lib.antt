mod WrittenParts
pub mod Csv
mod RecordsLeft
pub mod PlainLines
mod ByteOrderMarks
pub mod Each
pub mod Lists
pub mod CellLemmas
pub mod Cleaning
pub mod BlankText
mod CursorSteps
pub mod DraftProgress
pub mod FirstOrNone
pub mod Distinct
pub mod First
pub mod Clear
pub mod Headed
pub mod FlatRuns
