pub mod Matched
pub mod TraceLaws
pub mod TypingLaws
pub mod LinedLaws
pub mod ScriptLaws
