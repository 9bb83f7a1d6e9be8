-- Definitions, by which contracts promise.
pub mod Sites
