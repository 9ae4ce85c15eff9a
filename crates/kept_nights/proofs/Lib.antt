pub mod DifferentTracklets
pub mod HeldNights
pub mod KeptNights
pub mod OneEpoch
pub mod Renewal
pub mod WithNight
