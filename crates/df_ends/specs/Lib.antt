pub mod OfValues
pub mod Good
pub mod Laws
