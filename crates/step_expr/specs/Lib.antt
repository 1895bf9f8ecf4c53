-- Rules.

-- operators on values by number
pub mod Operators
-- fits of values to types, and cells of fields
pub mod Fits
