-- Rules.

-- the shape of the trees that the grammar gives
pub mod Shapes
