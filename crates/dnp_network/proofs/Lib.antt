mod Addresses
mod Lists
