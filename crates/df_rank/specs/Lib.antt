pub mod Ranks
pub mod Suits
pub mod Zones
pub mod Hold
pub mod Laws
