-- Proofs.

-- the cells of an object lie in memory
pub mod FieldCells
-- a class with few fields, for the tests
pub mod FewFields
