pub mod Dating
pub mod Lining
pub mod Listing
pub mod Paging
