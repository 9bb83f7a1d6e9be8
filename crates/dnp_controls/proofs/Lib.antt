pub mod Answering
pub mod Bare
pub mod Latching
pub mod Moving
pub mod Numbered
pub mod Performing
pub mod Setting
