pub mod Calls
pub mod Outcomes
pub mod Requests
pub mod Rows
pub mod State
pub mod LinkCalls
pub mod Taking
pub mod Selecting
pub mod Sinks
-- Words of private steps.
pub mod steps
