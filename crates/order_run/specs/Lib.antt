-- what public clauses cite
pub mod Bodies
pub mod Machine
-- what only this crate's own proofs and private functions cite
pub mod Frames
