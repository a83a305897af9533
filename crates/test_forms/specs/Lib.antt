pub mod Keys
pub mod Contents
pub mod Least
pub mod CacheView
pub mod WriterView
pub mod ReaderView
