pub mod Lifted
pub mod Runs
pub mod Taken
pub mod Following
pub mod Countdown
