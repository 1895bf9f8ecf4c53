-- ---- the rules

-- the grammar of types
pub mod Types
-- the grammar of expressions
pub mod Grammar
-- how tightly each operator and each form of an expression binds
pub mod Precedence
-- how far tokens are the beginning of one expression or type
pub mod Stretches
-- ---- what the code computes
pub mod computed
