pub mod HeapPlaces
pub mod Entries
pub mod Owners
