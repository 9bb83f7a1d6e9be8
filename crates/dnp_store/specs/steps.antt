-- Private steps: words of clauses that no caller sees.
pub mod Beginning
pub mod BookShown
pub mod Inside
pub mod JournalShown
pub mod JournalPages
pub mod Making
pub mod Pairs
pub mod QueueDenied
pub mod Seconds
pub mod Shown
pub mod Steps
pub mod Stored
pub mod Stores
pub mod Turning
pub mod Writing
