pub mod Steps
pub mod Ruled
pub mod Apart
pub mod Ends
