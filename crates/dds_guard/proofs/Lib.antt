pub mod Accounts
pub mod Following
pub mod Growing
pub mod Opened
pub mod Serving
pub mod Soundness
