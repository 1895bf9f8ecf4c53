pub mod Traces
pub mod Checked
pub mod Lined
pub mod Scripted
