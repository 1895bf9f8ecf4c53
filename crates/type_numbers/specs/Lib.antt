-- Rules.

-- a table of types and classes, and what its numbers say
pub mod Tables
-- what the table keeps beside them
pub mod Kept
-- Computed: what code computes.
pub mod computed
