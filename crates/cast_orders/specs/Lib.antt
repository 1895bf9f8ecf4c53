-- a heap and a value that are at least as precise as others
pub mod Below
-- the solutions of a cast, and the weakest
pub mod Solutions
-- a fit in a run, from the step that begins it to its end
pub mod FitSteps
