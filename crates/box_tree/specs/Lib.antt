pub mod Boxes
pub mod Counts
pub mod Joins
pub mod Meeting
pub mod Nodes
pub mod Orders
pub mod Trees
