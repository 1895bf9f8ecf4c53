-- Rules.

-- the types of a script's classes, and the types that are written so far
pub mod Known
-- types by their positions in a list
pub mod Placed
-- what a value of `ClassTypes` keeps
pub mod Holds
-- Computed: what code computes.

-- the definitions that the proofs tie to the rules
pub mod computed
