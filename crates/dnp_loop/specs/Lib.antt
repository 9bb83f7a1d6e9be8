-- Definitions, by which contracts promise.
pub mod Doors
pub mod Ends
pub mod LogBuffers
pub mod Notices
pub mod Places
pub mod States
pub mod Tokens
pub mod Waiting
