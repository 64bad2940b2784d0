pub mod Bills
pub mod File
pub mod Rules
pub mod Reading
pub mod Promise
pub mod Text
