-- Definitions, by which contracts promise.
pub mod Dates
pub mod Lines
pub mod Cells
pub mod Pages
pub mod Stores
