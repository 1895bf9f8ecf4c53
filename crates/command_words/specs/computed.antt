-- Computed: what code computes.

-- the parser of a command's words
pub mod Parser
-- what its texts stand for
pub mod Texts
