-- how each token is spelled
pub mod Tokens
-- where a space stands between two tokens
pub mod Spaces
-- the text of lines of tokens, and the tokens of that text
pub mod Lines
-- the lines whose text has just their tokens
pub mod Writable
-- what the tokens of a text are
pub mod Back
-- a page of lines, as contracts see it
pub mod Sheets
