-- what public clauses cite
pub mod Shape
pub mod Targeted
pub mod Survey
pub mod Laws
-- what only this crate's own proofs and private functions cite
pub mod Found
pub mod Swept
pub mod Moves
