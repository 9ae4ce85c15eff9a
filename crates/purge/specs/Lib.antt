pub mod LeastSquares
pub mod Purging
pub mod Sizes
