pub mod First
pub mod Groups
pub mod Reach
pub mod Strips
