-- Rules.

-- the parts of a construct whose types are known, and their uses
pub mod GivenParts
-- the class whose name is called
pub mod CalledClass
-- Computed: what code computes.

-- the definitions that the proofs tie to the rules
pub mod computed
