-- Private steps: words of clauses that no caller sees.
pub mod Forms
pub mod Judging
pub mod Lines
pub mod Readings
pub mod Idle
pub mod SqlStores
