-- Lemmas.
mod Objects
mod Directing
mod Selecting
