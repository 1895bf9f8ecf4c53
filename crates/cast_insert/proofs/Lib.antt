pub mod UsedLaws
pub mod InsertLaws
pub mod LineLaws
pub mod KeepLaws
pub mod TableLaws
pub mod ScriptLaws
