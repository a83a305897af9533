mod NeedsLists
pub mod LimitEnds
mod Explanations
mod SpanLaws
pub mod Founds
