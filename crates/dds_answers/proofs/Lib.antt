pub mod Telling
pub mod Advising
pub mod FileEnds
pub mod Unread
pub mod Proposals
mod Migrations
pub mod Opened
pub mod Columns
