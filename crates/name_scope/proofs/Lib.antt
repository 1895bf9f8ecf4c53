pub mod Turns
pub mod Tables
pub mod RoleLaws
pub mod FirstOfAll
pub mod FaultOrder
pub mod NameFaultLaws
pub mod BoundTurns
pub mod ClassesHaveTypes
pub mod Growth
pub mod TypedNameLaws
pub mod TypedFunctionLaws
pub mod TypesOfScript
pub mod Answers
mod Examples
