pub mod Numbering
pub mod IdNumbers
