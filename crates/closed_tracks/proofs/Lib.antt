pub mod Closed
pub mod FewNights
pub mod Kept
pub mod NextNights
pub mod Standing
pub mod Walks
