pub mod Lines
pub mod Traces
pub mod Laws
pub mod Tracing
