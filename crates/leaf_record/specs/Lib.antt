-- what public clauses cite
pub mod Leaf
pub mod History
pub mod Laws
pub mod Reading
-- what only this crate's own proofs and private functions cite
pub mod Batches
