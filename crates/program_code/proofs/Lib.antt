pub mod ScriptLaws
pub mod StaticTypes
pub mod TypedSlots
