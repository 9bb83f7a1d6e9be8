-- Lemmas.
pub mod Checked
pub mod Headers
pub mod Objects
pub mod Remembering
pub mod Steps
