-- Definitions, by which contracts promise.
pub mod Sessions
