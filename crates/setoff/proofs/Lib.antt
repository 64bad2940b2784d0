pub mod Spans
pub mod Places
pub mod Portions
pub mod Tallies
pub mod Positions
pub mod Sorts
