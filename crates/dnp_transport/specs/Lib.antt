-- Definitions, by which contracts promise.
pub mod Segments
pub mod Cuts
pub mod Series
pub mod Assembly
pub mod Laws
pub mod steps
