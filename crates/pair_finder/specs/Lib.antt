pub mod OneEpoch
pub mod Pruned
pub mod Pruning
