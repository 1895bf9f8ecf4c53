pub mod NameRoles
pub mod FoundFaults
pub mod Table
pub mod Bound
pub mod Typing
