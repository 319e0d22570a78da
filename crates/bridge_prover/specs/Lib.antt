-- what public clauses cite
pub mod Own
pub mod Watched
pub mod Bridge
pub mod Standing
pub mod Laws
pub mod Full
pub mod Throughout
-- what only this crate's own proofs and private functions cite
pub mod Draft
pub mod Judged
pub mod Shown
pub mod Taken
