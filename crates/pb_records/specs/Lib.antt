pub mod Records
pub mod Cells
pub mod FirstFault
pub mod Headed
pub mod Loading
pub mod Flat
pub mod Inside
