-- Rules.

-- the status and the line of an end, and of a refusal
pub mod Ends
