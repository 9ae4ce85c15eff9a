pub mod Draws
pub mod Motions
pub mod Sightings
pub mod MadeSky
pub mod Examples
