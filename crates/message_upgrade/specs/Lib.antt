-- what public clauses cite
pub mod Upgrade
pub mod Laws
