pub mod Circle
pub mod Lists
pub mod Night
pub mod Quadratics
pub mod Triples
