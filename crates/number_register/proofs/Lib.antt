pub mod Answered
pub mod Slots
pub mod FreeNumbers
pub mod Ids
pub mod Takings
