-- computed: what the code of this crate computes; `proofs/` shows that it is what the rules say
-- the piece at the front of a text
pub mod Reading
-- the tokens of pieces read one by one, or what refuses them
pub mod Scanning
-- what scanning a whole text gives
pub mod Scans
