-- Computed: what code computes.

-- places of objects, tested calls, and owners of obligations
pub mod computed
