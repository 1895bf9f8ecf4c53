pub mod Made
pub mod Rounds
pub mod Order
pub mod NewNames
pub mod FoundFaults
pub mod Leading
pub mod Measured
pub mod Ranks
