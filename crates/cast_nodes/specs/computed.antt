pub mod Placed
pub mod Noded
pub mod LineNodes
