pub mod Kinds
pub mod Allowed
pub mod Deny
pub mod Fates
pub mod Versions
