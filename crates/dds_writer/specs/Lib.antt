pub mod Proxies
pub mod Order
pub mod History
pub mod Writer
pub mod View
