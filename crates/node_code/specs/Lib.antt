-- Rules.

-- what stands at a place of a list, and lists side by side
pub mod Places
-- a list of texts, each once, and the number of one of them
pub mod Texts
-- each name of a tree has a slot
pub mod Slotted
-- for which trees the nodes of a block stand
pub mod NodeMeaning
-- a block that has got more nodes
pub mod Numbering
-- a block by numbers
pub mod Blocks
-- Computed: what code computes.
pub mod computed
