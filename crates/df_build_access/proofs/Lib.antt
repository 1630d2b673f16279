pub mod Standing
pub mod WindowLemmas
pub mod Meetings
pub mod WindowCells
pub mod WindowZones
