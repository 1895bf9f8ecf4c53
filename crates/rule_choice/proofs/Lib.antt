pub mod PartLists
pub mod Params
pub mod Given
pub mod UseLaws
pub mod CountLaws
pub mod RuleLaws
pub mod EndLaws
