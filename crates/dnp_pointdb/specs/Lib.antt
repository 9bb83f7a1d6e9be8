-- Definitions, by which contracts promise.
pub mod Blocks
pub mod Classes
pub mod Database
pub mod Events
pub mod Plan
pub mod PointPlaces
pub mod Ranges
pub mod Runs
pub mod Sound
-- Words of private steps.
pub mod steps
