-- what public clauses cite
pub mod Clashes
pub mod Texts
pub mod Found
pub mod Answers
pub mod Laws
-- what only this crate's own proofs and private functions cite
pub mod Searched
