-- Proofs.

-- the rows that are gathered are those of the rule
pub mod RowLaws
