pub mod Refused
pub mod Rows
pub mod Sounds
pub mod Taken
pub mod Turns
pub mod Written
