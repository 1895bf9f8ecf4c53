pub mod FirstLaws
pub mod FoundLaws
