pub mod Changes
pub mod Kept
pub mod Lists
pub mod Stored
