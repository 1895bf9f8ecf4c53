-- Proofs.

-- the list of types only grows, and each type stands once in it
pub mod TypeListLaws
