pub mod TyEq
