pub mod Room
pub mod Nodes
pub mod Clusters
pub mod Edges
pub mod Picture
