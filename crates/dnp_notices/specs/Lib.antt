-- Definitions, by which contracts promise.
pub mod Controls
pub mod Dropping
pub mod Exchanges
pub mod Places
pub mod Refusals
pub mod Standings
pub mod Strange
pub mod Tones
