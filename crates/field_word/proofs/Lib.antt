-- Proofs.

-- a word made of parts gives its parts back
pub mod WordParts
-- a pair's word unpacks to the pair
pub mod Unpacks
-- a word that unpacks is its pair's
pub mod Packs
-- both, as the clauses say them
pub mod Pairs
