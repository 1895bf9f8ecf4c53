-- Rules: the command line.

-- what some words give: options and last words
pub mod Words
-- which command they ask for
pub mod CommandLine
-- what only computes
pub mod computed
