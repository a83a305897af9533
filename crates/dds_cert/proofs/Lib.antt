pub mod KindLaws
pub mod KeyLaws
pub mod ReadLaws
pub mod WorkedFiles
