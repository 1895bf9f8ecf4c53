-- Rules.

-- a list of types, each once, and the position of one of them
pub mod Placing
-- Computed.
pub mod computed
