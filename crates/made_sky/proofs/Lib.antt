pub mod Drawing
pub mod Moving
pub mod Naming
pub mod Holding
