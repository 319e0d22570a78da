-- what public clauses cite
pub mod Verified
pub mod Evaluation
-- what only this crate's own proofs and private functions cite
pub mod PlaceSources
pub mod Destinations
pub mod NewPlaces
pub mod PlaceNodes
pub mod Judged
pub mod Reserved
pub mod Gathered
pub mod Batches
