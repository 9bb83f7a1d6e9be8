-- Lemmas.
pub mod Accounting
pub mod Joining
pub mod Members
pub mod Naming
pub mod Noting
pub mod Parts
pub mod Splits
pub mod Sums
