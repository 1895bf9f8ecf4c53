pub mod Texts
pub mod Numbers
pub mod Items
pub mod Answering
