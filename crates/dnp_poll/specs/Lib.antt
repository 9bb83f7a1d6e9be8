-- Definitions, by which contracts promise.
pub mod Rows
pub mod Instead
pub mod Polls
pub mod TaskEnds
pub mod Selecting
pub mod Waiting
pub mod Tables
