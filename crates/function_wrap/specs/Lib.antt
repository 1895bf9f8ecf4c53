-- Rules.

-- a function at the meet of its merged type and another
pub mod Narrowed
