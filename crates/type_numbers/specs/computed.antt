-- Computed: what code computes.

-- parts and names by shapes
pub mod ShapeParts
