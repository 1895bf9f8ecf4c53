-- computed: what the machine of this crate computes; `proofs/` shows that it is what the grammar says
-- what a token is to what stands before it
pub mod Endings
-- reading a class one token at a time
pub mod ClassReading
-- reading the head of a function one token at a time
pub mod DefReading
-- reading a script one token at a time
pub mod Reading
