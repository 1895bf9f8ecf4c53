-- Rules: what a command answers. Nothing here only says what code computes.

-- the texts of printed values and lines
pub mod Texts
-- an answer: status, output and error line
pub mod Answer
-- what of an answer is put
pub mod Putting
-- what a script's bytes come to
pub mod Scripts
-- the answer of a command
pub mod Commands
-- what the top call says, clause by clause
pub mod Top
