-- the tokens of types and expressions, with brackets only where they are needed
pub mod Brackets
-- the lines of statements, classes, functions and scripts
pub mod ScriptLines
-- trees without their places
pub mod Placeless
-- the trees that the grammar gives, and the texts that read back as a tree
pub mod ReadsBack
