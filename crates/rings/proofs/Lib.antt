pub mod Laws
pub mod Collecting
pub mod Following
pub mod Going
pub mod Rounds
pub mod Sweeps
pub mod Strikes
