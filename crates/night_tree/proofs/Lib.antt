pub mod EachTwoOf
pub mod NightTracklets
pub mod NoPairs
pub mod PairsRise
pub mod Sets
