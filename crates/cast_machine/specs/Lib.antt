-- Rules: what is true of the machine.

-- finite maps from names
pub mod Maps
-- the heap, its objects and cells by address
pub mod Heap
-- the address of an object as a sum
pub mod Addresses
-- a fit of a value to a type
pub mod Fits
-- the operators on integers and on values
pub mod Operators
-- the obligations of an object for a type
pub mod Obligations
-- the rows of blocks, statements, expressions and fits
pub mod Rows
-- the rows that look at one cell
pub mod Cells
-- what an obligation and a write decide by their cell alone
pub mod CellVerdicts
-- the rows of objects, calls, threads and prints
pub mod Calls
-- the configuration, one step of one thread, a run, and the order of a seed
pub mod Step
-- the picks of the seed's order
pub mod SeededPicks
-- the sites that ends and fits name
pub mod BlamedSites
-- when a value has a type in a heap, and when a heap is well typed
pub mod HeapTyping
-- when the work of a frame is well typed
pub mod WorkTyping
-- a well-typed configuration
pub mod Typing
-- how many threads, cells, print words, steps and items there are at most
pub mod RunLimits
-- the types of a configuration are types of the language
pub mod LanguageTypes
-- what is true of every configuration of a run
pub mod Safety
-- steps on small configurations
pub mod Examples
-- Computed: what code computes.

-- the run by the picks of a seed
pub mod computed
