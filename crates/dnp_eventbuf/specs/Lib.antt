-- Definitions, by which contracts promise.
pub mod Archive
pub mod Buffered
pub mod Calls
pub mod Codes
pub mod EventBuffer
pub mod FitsLane
pub mod Latest
pub mod Restored
pub mod Sides
pub mod SinkCalls
pub mod Sound
-- Words of private steps.
pub mod steps
