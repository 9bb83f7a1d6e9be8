-- Definitions, by which contracts promise.
pub mod Address
pub mod OctetLines
pub mod TextFaults
pub mod Units
pub mod Station
pub mod AnswerLine
pub mod streams
pub mod links
pub mod steps
