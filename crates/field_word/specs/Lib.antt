-- Rules.

-- the word of a type's number and a value
pub mod Words
-- Computed: what code computes.

-- the pair of a word, read off its bits
pub mod computed
