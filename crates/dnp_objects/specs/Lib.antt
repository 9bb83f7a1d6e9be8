-- Definitions, by which contracts promise.
pub mod Commands
pub mod Counts
pub mod Equality
pub mod Events
pub mod Faults
pub mod Lanes
pub mod Objects
pub mod Parts
pub mod Relative
pub mod Rows
pub mod Status
pub mod Stores
pub mod Words
