-- what public clauses cite
pub mod Samples
-- what only this crate's own proofs and private functions cite
pub mod Texts
