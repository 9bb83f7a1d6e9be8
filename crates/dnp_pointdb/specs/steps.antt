-- Words of private steps.
pub mod Order
