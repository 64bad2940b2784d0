pub mod Network
pub mod Residual
pub mod Search
pub mod Promise
pub mod Worked
pub mod Rows
pub mod Told
