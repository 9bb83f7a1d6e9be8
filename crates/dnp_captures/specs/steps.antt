-- Words of private steps.
pub mod Reading
