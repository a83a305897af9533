pub mod Documents
pub mod Ends
