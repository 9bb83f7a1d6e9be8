-- Definitions, by which contracts promise.
pub mod Book
pub mod Calls
pub mod Code
pub mod Latches
pub mod Moves
pub mod Panel
pub mod Selecting
-- Words of private steps.
pub mod steps
