-- Definitions, by which contracts promise.
pub mod Addresses
pub mod Awaiting
pub mod Below
pub mod BookOutputs
pub mod Causes
pub mod Centre
pub mod Concentrator
pub mod IndexKinds
pub mod IndexMap
pub mod Mapped
pub mod PerCentre
pub mod Plan
pub mod PointsAbove
pub mod Relayed
pub mod Relaying
pub mod Reserving
pub mod Restarting
-- Words of private steps.
pub mod steps
