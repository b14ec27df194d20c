-- What the code's own parts stand for, step by step. The contracts of these parts cite it, as those of `Cursor` and
-- `take_all`. What a file's records are, and its first fault, is said without it.
pub mod Lines
pub mod RecordReader
pub mod Position
pub mod Drafts
pub mod Headed
pub mod RecordWriter
