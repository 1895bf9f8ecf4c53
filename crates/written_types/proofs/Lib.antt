pub mod OntoLaws
pub mod NamesRight
pub mod NamedParts
pub mod WrittenLaws
pub mod Uniqueness
pub mod Example
