-- Definitions, by which contracts promise.
pub mod Captures
pub mod CheckWords
pub mod Hexadecimal
pub mod Items
pub mod steps
