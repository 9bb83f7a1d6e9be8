-- Definitions, by which contracts promise.
pub mod Actions
pub mod Codes
pub mod Intended
pub mod Numbers
pub mod Orders
pub mod Statuses
pub mod Words
