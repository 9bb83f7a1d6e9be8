pub mod RequestHeaders
pub mod Gatherings
pub mod KnownPoints
pub mod LinkSteps
pub mod Reported
pub mod Selecting
