pub mod Fresh
pub mod FueledLists
pub mod Able
pub mod Seeding
