pub mod Line
pub mod Checking
pub mod Matching
pub mod Proposing
pub mod Fault
pub mod Ends
