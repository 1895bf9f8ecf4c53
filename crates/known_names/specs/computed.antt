pub mod TypeTests
pub mod Annotations
pub mod KnownNames
pub mod Gathered
pub mod Gives
