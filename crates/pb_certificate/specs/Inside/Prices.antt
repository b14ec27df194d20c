-- What the code's own parts on price certificates stand for.
pub mod Places
pub mod Head
pub mod PriorRows
pub mod RowReader
pub mod PaymentSinks
pub mod Gathering
pub mod CanonicalDrafts
pub mod StatedRow
