-- Lemmas.
pub mod Sizes
pub mod Walking
