pub mod Answers
pub mod Demands
pub mod Rows
pub mod Scopes
pub mod Sorts
pub mod Sources
pub mod Types
