-- what public clauses cite
pub mod Upgraded
pub mod Laws
pub mod Upgrader
