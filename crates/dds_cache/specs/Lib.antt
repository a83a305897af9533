pub mod Released
pub mod Cache
pub mod Order
pub mod Queues
pub mod Least
pub mod View
