-- what the spellings of names, numbers and strings are worth
pub mod Spellings
