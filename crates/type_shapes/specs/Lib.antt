-- Rules: types by shapes, whose parts are numbers of types.

-- the test of equality of shapes decides equality
pub mod ShapeEqLaws
-- which type a shape stands for
pub mod Shows
-- a list of types with their shapes, and rows of meets
pub mod Numbered
-- the limits of a list of types, and its first fault
pub mod Limits
-- Computed: what code computes.
pub mod computed
