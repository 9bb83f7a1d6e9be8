-- Definitions, by which contracts promise.
pub mod Disagreements
pub mod Endpoints
pub mod Keys
pub mod Links
pub mod Networks
pub mod Points
pub mod Polling
