-- Definitions, by which contracts promise.
pub mod Polynomials
pub mod CheckWord
pub mod Frames
pub mod Stream
pub mod steps
