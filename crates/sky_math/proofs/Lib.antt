pub mod Coefficients
pub mod Days
pub mod Greatest
pub mod Lines
pub mod Order
pub mod Ring
pub mod Shifts
