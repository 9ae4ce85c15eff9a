pub mod Words
pub mod Reading
pub mod Names
pub mod ReportText
pub mod Texts
pub mod Refusals
pub mod Examples
pub mod AskedText
