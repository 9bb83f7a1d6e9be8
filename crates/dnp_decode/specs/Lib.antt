-- Definitions, by which contracts promise.
pub mod Bits
pub mod FragmentLines
pub mod FrameLines
pub mod Names
pub mod StreamLines
pub mod steps
