-- Proofs.

pub mod EndLines
