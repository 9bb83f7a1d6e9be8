pub mod Dialogues
pub mod Following
pub mod Order
pub mod Serving
pub mod Showing
pub mod Standing
pub mod Steps
