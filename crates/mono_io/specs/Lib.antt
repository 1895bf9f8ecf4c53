-- Rules: what shelves and sinks tell, and what their calls answer.

-- what a fetch and a put answer in memory, and how shelf and sink stand behind it
pub mod Answers
-- what contracts see of the shelf and the sink in memory
pub mod Fakes
-- counts of faults, and what is told of bytes
pub mod Faults
-- what putting a text does, in one piece or in several
pub mod Puts
