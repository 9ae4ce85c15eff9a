pub mod FittingSets
pub mod Listing
