-- Definitions, by which contracts promise.
pub mod Tables
pub mod QueueTables
pub mod PairTables
pub mod Commits
pub mod QueueKept
pub mod QueueOpens
pub mod JournalTables
pub mod JournalKept
pub mod BookTables
pub mod BookKept
pub mod Schemas
pub mod Faults
pub mod Texts
pub mod Added
pub mod Undone
pub mod Refusals
pub mod Showing
-- Words of private steps.
pub mod steps
