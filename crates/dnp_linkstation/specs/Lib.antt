-- Definitions, by which contracts promise.
pub mod Control
pub mod Station
