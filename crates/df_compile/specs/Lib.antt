pub mod Placed
pub mod Compiled
