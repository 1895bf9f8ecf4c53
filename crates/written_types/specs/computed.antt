pub mod TypesOnto
pub mod WrittenItems
