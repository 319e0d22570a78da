-- what public clauses cite
pub mod Audit
pub mod Laws
