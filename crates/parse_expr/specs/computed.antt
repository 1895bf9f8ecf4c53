-- computed: what the machines of this crate compute; `proofs/` shows that it is what the grammar says
-- the runs of a machine over tokens
pub mod Goes
-- reading a type one token at a time
pub mod TypeReading
-- reading an expression one token at a time
pub mod Reading
