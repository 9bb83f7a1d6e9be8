-- Definitions, by which contracts promise.
pub mod Lines
pub mod Ports
pub mod Comes
pub mod Ways
pub mod Flows
pub mod Clear
pub mod steps
