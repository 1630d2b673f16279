pub mod Counted
pub mod Arcs
pub mod Made
pub mod Zones
pub mod Closing
pub mod FrameZones
