-- Rules: the phases of a script, and its first refusal.

-- from its tree to the script with casts
pub mod TreePhases
-- from its bytes to its tree, and all the way
pub mod Phases
