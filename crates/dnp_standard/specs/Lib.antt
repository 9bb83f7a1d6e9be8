pub mod Functions
pub mod Groups
pub mod Headers
pub mod Kinds
pub mod Objects
pub mod Parts
pub mod Qualifiers
pub mod Walks
