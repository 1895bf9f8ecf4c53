pub mod TypeTests
pub mod HeapWrites
pub mod Starts
pub mod Taken
pub mod Pushed
