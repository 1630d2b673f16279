pub mod Rows
pub mod Cycles
pub mod Found
pub mod Balances
pub mod Residuals
pub mod Sends
pub mod Lowered
pub mod Balanced
