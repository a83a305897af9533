pub mod Ranges
pub mod Marks
pub mod Notes
pub mod Held
pub mod Reader
pub mod View
