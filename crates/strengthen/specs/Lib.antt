-- Rules.

-- what an obligation decides on the word of its cell
pub mod Demands
