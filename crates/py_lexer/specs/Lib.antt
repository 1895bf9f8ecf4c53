-- ---- the rules

-- classes of characters, lines, and where characters stand
pub mod Characters
-- how a text is cut into pieces, each the longest of its kind
pub mod Pieces
-- logical lines, brackets and indentation: from pieces to tokens
pub mod Layout
-- the faults of a text, and which of them is the first
pub mod Faults
-- the tokens of a text, and the refusal of a text that has none
pub mod Lexes
-- the sizes that a text within the limit keeps small
pub mod Bounds
-- ---- what the code computes
pub mod computed
