pub mod Reversed
pub mod Sets
pub mod Cases
pub mod Sizes
