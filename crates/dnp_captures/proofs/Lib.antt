-- Lemmas.
pub mod Dumps
pub mod Lines
pub mod Marks
