-- what one call adds to the tables
pub mod MoreTables
