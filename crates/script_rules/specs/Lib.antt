-- Rules: what names mean. Nothing here only says what code computes.

-- the classes, functions and statements of a script
pub mod Definitions
-- the types that annotations write
pub mod Writes
-- the names of a block
pub mod BlockNames
-- a script whose names have their types
pub mod Scoping
-- which of several faults counts
pub mod FirstFault
-- classes that lead back to themselves
pub mod Recursion
-- what can be too large in a script, and when it is
pub mod SourceParts
pub mod SizeFaults
-- classes and annotations that write types of the language
pub mod WellFormed
-- where names stand, what they do there, and which of it is wrong
pub mod Occurrences
pub mod NameRules
pub mod NameFaults
-- what the answer of a phase says of refusals
pub mod LoadFaults
-- what a script is refused for by its names and sizes
pub mod ScopeFaults
-- where an expression stands
pub mod SourcePlaces
-- a script and the same with casts
pub mod SourceCasts
-- a well-typed script with casts
pub mod WellTyped
-- a small script on which that is tried
pub mod CastExample
