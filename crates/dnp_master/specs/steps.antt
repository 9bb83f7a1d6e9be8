-- Words of private steps.
pub mod Gathering
