-- Rules.

-- the text of a stress script
pub mod StressText
