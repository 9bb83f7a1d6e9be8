mod OneToOne
mod Parsed
mod Units
