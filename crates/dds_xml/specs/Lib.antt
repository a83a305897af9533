pub mod Pieces
pub mod Types
pub mod Profiles
pub mod Topics
pub mod Participants
pub mod Applications
pub mod Document
