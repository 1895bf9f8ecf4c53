-- Proofs.

-- texts of lines, put together
pub mod LineTexts
