pub mod PlaceLaws
pub mod TextLaws
pub mod Growing
pub mod Slotting
pub mod StmtGrowing
pub mod BlockLaws
