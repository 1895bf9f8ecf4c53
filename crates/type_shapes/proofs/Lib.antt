-- Proofs.

pub mod PartTurns
pub mod ShapeLaws
pub mod MeetShapes
pub mod SizeTurns
pub mod LimitLaws
pub mod Going
pub mod Pushes
pub mod MadeTurns
pub mod RowLaws
pub mod NumberLaws
pub mod RowTurns
pub mod AllRows
pub mod ShapeTurns
pub mod NumberedPuts
