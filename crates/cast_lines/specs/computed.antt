-- Computed: what code computes.

-- the rows in the order of their numbers
pub mod Rows
