-- Proofs.

pub mod Fronts
pub mod NameTexts
pub mod TextLoading
pub mod ClosingTypes
pub mod Numbering
pub mod ClassTypes
pub mod TreeLoading
pub mod ProgramTyped
