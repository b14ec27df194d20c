mod Distinct
mod KeyLemmas
pub mod FoundParts
mod Clear
mod Taken
mod Spots
mod BeginningLemmas
pub mod Apart
mod Extends
pub mod Reading
pub mod Elections
mod Totals
pub mod Sets
mod Sound
mod IdLemmas
mod ColumnLemmas
mod VoteLemmas
mod Rising
mod MarkerLemmas
mod OutlineLemmas
