pub mod Supply
pub mod Receipt
pub mod Kept
pub mod Seen
pub mod Reading
pub mod Sound
pub mod Reached
pub mod Advance
