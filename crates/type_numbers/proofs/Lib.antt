-- Proofs.

-- what shapes, rows and numbers say of the types
pub mod TableLaws
-- how a table is made
pub mod MakingLaws
