pub mod Listed
pub mod Plain
