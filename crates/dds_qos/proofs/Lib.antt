pub mod BaseLaws
pub mod NoteLaws
pub mod TakingLaws
pub mod KeySets
