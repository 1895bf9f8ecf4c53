-- Rules: types, and scripts with casts.

-- the fields of an object type
pub mod FieldNames
-- what every type of the language keeps
pub mod IsType
-- precision as an order, and as a test
pub mod Precise
pub mod Precision
-- the meet of two types, and consistent types
pub mod Meet
-- types by their numbers in a list
pub mod TypeNumbers
-- types with no `Dyn` inside
pub mod Static
-- how large a type is
pub mod Sizes
-- the closed set of given types, and its list
pub mod ClosedList
-- look-ups in a script with casts
pub mod CastScripts
-- its sites
pub mod Sites
-- whether a body may end without a return
pub mod BodyEnds
-- a script with casts whose expressions have types
pub mod TypedPrograms
-- the text of a type
pub mod TypeText
-- Computed: what code computes.

-- sizes that are counted up to the limits
pub mod computed
