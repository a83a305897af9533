pub mod Replies
pub mod Events
pub mod Lines
pub mod Faults
pub mod Words
pub mod Reading
