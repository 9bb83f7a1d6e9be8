mod Repeats
mod Made
