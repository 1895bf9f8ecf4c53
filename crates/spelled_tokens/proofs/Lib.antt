pub mod Cuts
pub mod LastToken
