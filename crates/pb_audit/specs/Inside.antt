-- What the code's own parts stand for, step by step. The contracts of `folder_text` and `FolderReport::add` cite what
-- an entry's files deliver. What a command answers, and the report on such files, is said without it.
pub mod Folders
pub mod Certificates
pub mod Told
