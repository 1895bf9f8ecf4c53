-- Computed: what code computes.

-- equality of shapes, and what a hash reads of one
pub mod ShapeEq
-- meets by a table
pub mod ByNumber
-- the type of a shape
pub mod MadeTypes
-- the meet of two types by their shapes
pub mod PairMeets
-- sizes of types, counted up to the limits
pub mod CountedParts
