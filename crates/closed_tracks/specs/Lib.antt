pub mod Candidates
pub mod InOneList
