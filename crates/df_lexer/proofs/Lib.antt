pub mod Numbers
pub mod Words
pub mod Longest
pub mod LongestSymbols
pub mod Readings
