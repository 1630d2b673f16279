pub mod Untaken
pub mod Placed
pub mod Outputs
pub mod Realize
