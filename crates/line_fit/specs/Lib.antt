pub mod Laws
pub mod Lines
pub mod Quotients
pub mod Slopes
