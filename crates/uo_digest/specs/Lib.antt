-- what public clauses cite
pub mod Reading
pub mod Stream
pub mod XorFold
-- what only this crate's own proofs and private functions cite
pub mod Batches
