-- Lemmas: the walk of the parser, and what command lines give.

-- the parser's rules, as they are built
pub mod Rules
-- rows of what was given, and their uses
pub mod Rows
-- the forms of a word
pub mod Forms
-- what the parser does at a word of each form
pub mod Turns
-- words that give options and last words, as parts in their order
pub mod Parts
-- words that the parser takes give options and last words
pub mod Went
-- and the other way round
pub mod Taken
-- the parser as a whole
pub mod Whole
-- options with numbers as their texts
pub mod Numbers
-- command lines, from what the parser reads
pub mod Commands
-- words ask for one command at most
pub mod OneCommand
