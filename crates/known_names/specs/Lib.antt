-- Rules.

-- what the code knows of names is what the rules say of them
pub mod IsKnown
-- Computed: what code computes.

-- the definitions that the proofs tie to the rules
pub mod computed
