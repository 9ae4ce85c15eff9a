pub mod Pieces
pub mod Begun
pub mod Advancing
pub mod LineCuts
pub mod Answering
