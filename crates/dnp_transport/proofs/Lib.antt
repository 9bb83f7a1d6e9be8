pub mod Calls
pub mod Carried
pub mod Exits
pub mod Histories
pub mod Steps
pub mod Pushes
