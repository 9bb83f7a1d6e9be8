-- Definitions, by which contracts promise.
pub mod Budgets
pub mod CalleeCalls
pub mod Callees
pub mod CallerCalls
pub mod Callers
pub mod CentreNodes
pub mod ConcentratorNodes
pub mod Dropping
pub mod Heads
pub mod OutstationNodes
pub mod Requests
pub mod Runs
pub mod Told
pub mod Turns
