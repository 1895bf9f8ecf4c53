-- Computed: what code computes.
pub mod TypeList
