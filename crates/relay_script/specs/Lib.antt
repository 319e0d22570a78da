-- what public clauses cite
pub mod Script
-- what private functions and proofs cite
pub mod Reading
