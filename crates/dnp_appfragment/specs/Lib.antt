-- Definitions, by which contracts promise.
pub mod Built
pub mod Control
pub mod EventRows
pub mod Faults
pub mod Fragments
pub mod Headers
pub mod Indications
pub mod Items
pub mod Joining
pub mod Left
pub mod Lending
pub mod Meaning
pub mod Names
pub mod Objects
pub mod Places
pub mod Reading
pub mod Seen
pub mod Table
pub mod Whole
pub mod Written
-- Words of private steps.
pub mod steps
