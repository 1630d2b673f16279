pub mod Names
pub mod Lines
pub mod Choices
pub mod Replays
pub mod OneLine
pub mod Traced
pub mod Readings
