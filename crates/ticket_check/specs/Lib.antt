-- what public clauses cite
pub mod Tickets
pub mod Reading
pub mod Judging
pub mod Written
pub mod Clashing
pub mod Checking
pub mod Laws
-- what only this crate's own proofs and private functions cite
pub mod Alone
