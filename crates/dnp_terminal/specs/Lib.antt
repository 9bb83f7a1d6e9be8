-- Definitions, by which contracts promise.
pub mod Progresses
pub mod Tones
