-- what public clauses cite
pub mod Stored
pub mod Fits
pub mod OfHistory
pub mod Told
pub mod Cached
pub mod Reached
-- what only proofs and private functions cite
pub mod Reading
pub mod Merged
pub mod Ordered
