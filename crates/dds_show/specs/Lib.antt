pub mod Connections
pub mod Pieces
pub mod Policies
pub mod Entries
pub mod Json
pub mod Reasons
pub mod Times
