pub mod Climbing
pub mod Settling
