pub mod Paths
pub mod Places
pub mod Reading
pub mod Gives
pub mod Document
pub mod Words
pub mod Kinds
pub mod FaultTable
