-- what public clauses cite
pub mod Stump
pub mod Joined
pub mod After
pub mod Rows
pub mod Laws
