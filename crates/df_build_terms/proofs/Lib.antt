pub mod Deciding
pub mod Unwinding
pub mod Forms
pub mod Counting
pub mod Lists
pub mod Made
pub mod Inner
pub mod Zones
