-- Rules.

-- the types that a script writes, in source order
pub mod ScriptTypes
-- a small script on which that is tried
pub mod TypesExample
-- Computed: what code computes.

-- the definitions that the proofs tie to the rules
pub mod computed
