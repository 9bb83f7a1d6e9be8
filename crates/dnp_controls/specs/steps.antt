-- Words of private steps.
pub mod History
pub mod Keeping
pub mod Places
