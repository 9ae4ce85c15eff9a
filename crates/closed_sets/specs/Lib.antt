pub mod Around
pub mod Counting
pub mod Families
pub mod Laws
pub mod Objects
pub mod Search
