-- what public clauses cite
pub mod Arrivals
pub mod Laws
pub mod Path
pub mod Walk
-- what only this crate's own proofs and private functions cite
pub mod Numbers
pub mod Steps
