pub mod Windows
pub mod Elements
pub mod Accesses
pub mod Laws
