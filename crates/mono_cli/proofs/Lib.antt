pub mod Lines
pub mod PutAnswers
pub mod TextAnswers
pub mod CommandAnswers
pub mod Running
pub mod ProgramTree
pub mod EachLine
pub mod TopClauses
