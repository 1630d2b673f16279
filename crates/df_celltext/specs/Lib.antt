pub mod Versions
pub mod CellText
pub mod PlainKinds
pub mod Writable
pub mod Cuts
pub mod Reading
pub mod WrongLines
pub mod Rows
