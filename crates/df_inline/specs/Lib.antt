pub mod Sizes
pub mod Tables
pub mod Counts
pub mod Answers
pub mod Bindings
pub mod Parts
pub mod Lowered
