-- Rules.

-- sites, and where one stands
pub mod Sites
-- the sites of a construct's own
pub mod OwnSites
-- what a construct becomes over its parts
pub mod Nodes
-- the type of an expression, what it becomes, and its sites
pub mod Elaborates
-- the same of statements
pub mod ElaboratesLines
-- the same of a script
pub mod HasCasts
-- what typing can refuse a script for
pub mod TypingReasons
-- field names that are text
pub mod TextNames
