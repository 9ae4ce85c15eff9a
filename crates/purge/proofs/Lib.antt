pub mod AllPlaces
pub mod Deviations
pub mod Greatest
pub mod Left
pub mod Residuals
pub mod Terms
pub mod Totals
