-- what public clauses cite
pub mod Steps
pub mod Blocks
pub mod Money
pub mod Witness
pub mod Rules
pub mod Judged
pub mod Laws
-- what only this crate's own proofs and private functions cite
pub mod Keys
pub mod KeptOutputs
pub mod Known
pub mod Walk
pub mod Seen
pub mod Paying
