-- Words of private steps.
pub mod Building
pub mod Listed
pub mod Overwriting
pub mod Spans
pub mod Walking
