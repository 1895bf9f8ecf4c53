-- Proofs.

-- errors while types are put one after another
pub mod FaultTurns
-- the beginning of a closed list
pub mod CloseLaws
-- a list's first fault
pub mod RefusalLaws
