pub mod Bases
pub mod Curves
pub mod Laws
pub mod Levels
pub mod Lowering
pub mod MarkRanges
pub mod NearStart
pub mod References
