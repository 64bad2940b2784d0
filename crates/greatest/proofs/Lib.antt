pub mod Counted
pub mod OfDay
pub mod Gains
pub mod Settled
