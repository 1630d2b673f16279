pub mod Growing
pub mod BufferTable
pub mod StagesKept
pub mod NodeTable
pub mod Made
pub mod Answered
