-- what tokens spell: slices of the text
pub mod Spelling
-- what words and operators are
pub mod Words
-- tokens with what they spell
pub mod SpelledTokens
