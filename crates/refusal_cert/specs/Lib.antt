pub mod Certificates
pub mod Coefficients
pub mod Laws
pub mod Searches
