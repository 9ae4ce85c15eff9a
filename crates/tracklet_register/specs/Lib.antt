pub mod Entries
pub mod Exchanges
pub mod Laws
pub mod Nights
pub mod Registers
pub mod Renewing
pub mod Replacing
