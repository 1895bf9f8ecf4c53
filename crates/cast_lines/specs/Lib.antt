-- Rules.

-- the order of the list
pub mod Order
-- the list of a script's casts
pub mod CastLines
-- Computed.
pub mod computed
