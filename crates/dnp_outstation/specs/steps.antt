-- Private steps: words of clauses that no caller sees.
pub mod Answering
pub mod Deciding
pub mod Filling
pub mod Grouping
pub mod Holding
pub mod Performing
pub mod Pushing
pub mod Putting
