pub mod Tables
pub mod Listing
pub mod Targets
pub mod Bounds
pub mod Relaxation
pub mod Following
pub mod Proposal
