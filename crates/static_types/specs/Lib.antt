-- Rules.

-- what may be named in a block, which is the main block or a function's body
pub mod Names
-- the fields of a type, and what a call asks and gives
pub mod Members
-- the operators of two parts
pub mod Operators
-- the parts of an expression, in source order
pub mod Parts
-- the rules of typing
pub mod Rules
-- the static type of an expression, and the types of all its parts
pub mod Types
-- the first fault of typing in an expression
pub mod Faults
-- whether a body may end without a return
pub mod BodyEnds
-- typing of statements
pub mod Lines
-- the first fault of typing in statements, in source order
pub mod LineFaults
-- typing of a script whose names have their types
pub mod Scripts
-- a script whose expressions have their types
pub mod Typing
