pub mod DynSites
pub mod Rows
pub mod NodeRows
pub mod SlotLaws
pub mod NodeLaws
pub mod LineSlotLaws
