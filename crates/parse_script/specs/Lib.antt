-- ---- the rules

-- the grammar of statements
pub mod Statements
-- the grammar of classes and functions
pub mod Definitions
-- the grammar of scripts, and how tokens are refused that have no tree
pub mod Script
-- ---- what the code computes
pub mod computed
