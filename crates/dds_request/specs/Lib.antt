pub mod Wishes
pub mod Command
pub mod Request
pub mod Asking
