pub mod Acceptance
pub mod Refusal
