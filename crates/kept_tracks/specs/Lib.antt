pub mod Costs
pub mod KeptFor
pub mod SeveralNights
pub mod Stages
pub mod Undoing
