pub mod CountedSizes
