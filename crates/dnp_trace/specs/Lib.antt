-- Definitions, by which contracts promise.
pub mod Accounts
pub mod Captures
pub mod Charts
pub mod Logs
pub mod Phrases
pub mod ReportJsons
pub mod Traces
