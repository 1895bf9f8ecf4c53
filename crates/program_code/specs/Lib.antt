-- Rules.

-- how many functions, classes and sites there may be
pub mod Counts
-- the same script by numbers
pub mod SameScript
-- a list that has each type of a script
pub mod TypesIn
