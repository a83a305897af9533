pub mod Diary
pub mod Ends
pub mod Kept
