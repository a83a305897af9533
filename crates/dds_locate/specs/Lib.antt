pub mod Spans
pub mod Found
