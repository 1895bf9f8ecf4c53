-- Rules.

-- a running thread has fuel left
pub mod Fueled
-- a run in the order of a seed that has come to its end
pub mod SeededEnds
-- Computed: what code computes.

-- the threads that can step
pub mod computed
