-- Definitions, by which contracts promise.
pub mod Causes
pub mod Connections
pub mod Doors
pub mod Replays
pub mod steps
