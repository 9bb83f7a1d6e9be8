mod NewPort
mod Lines
mod OctetText
mod OneAnswer
mod Opened
mod Spoken
mod Spaced
mod SpacedPieces
mod SpacedWriting
mod TextPlaces
mod streams
pub mod links
