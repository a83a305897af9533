pub mod Dictionary
pub mod Keeping
pub mod Line
pub mod Points
