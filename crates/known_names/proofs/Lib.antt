pub mod TypeTests
pub mod NamedLaws
pub mod Steps
pub mod Classes
pub mod AnnotationLaws
pub mod KnownLaws
pub mod OneKnown
pub mod BodyTurns
