pub mod Inserted
pub mod Lined
pub mod Scripted
