-- what public clauses cite
pub mod Forest
pub mod Places
pub mod Position
pub mod Named
pub mod Laws
