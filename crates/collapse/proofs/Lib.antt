pub mod Distances
pub mod Filing
pub mod FirstPlaces
pub mod Firsts
pub mod OnLines
pub mod Searching
pub mod Together
