pub mod Owned
pub mod Follows
pub mod Status
pub mod Calls
pub mod Checking
pub mod Qos
pub mod Faults
