pub mod Holds
pub mod Frames
pub mod Folds
pub mod Laws
