pub mod Nights
pub mod Tracklets
