pub mod KeptNights
pub mod LinkerState
pub mod Renewed
pub mod Soundness
