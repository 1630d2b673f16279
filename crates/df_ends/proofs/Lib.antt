pub mod Order
pub mod Lower
pub mod Ends
pub mod Good
pub mod OfValues
pub mod Late
pub mod Realized
