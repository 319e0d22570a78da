-- what public clauses cite
pub mod State
pub mod Blocks
pub mod Nodes
pub mod Proving
-- what only this crate's own proofs and private functions cite
pub mod Sets
pub mod Pages
pub mod Stores
pub mod Parts
pub mod Rows
pub mod Lookups
pub mod Holding
