-- Proofs.

-- what a fit leaves of a value fits its word
pub mod FittedWords
