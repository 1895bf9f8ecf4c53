-- Computed: what code computes.

-- the definitions that the proofs tie to the rules
pub mod computed
