-- Definitions of links: a station's end of a link, without reading or writing.
pub mod Outputs
pub mod Deeds
pub mod Links
pub mod Laws
pub mod Counts
pub mod Orders
