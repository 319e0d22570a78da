pub mod Padding256Lemmas
pub mod ListLemmas
pub mod MidstateLemmas
pub mod Padding512Lemmas
pub mod BlockLemmas
pub mod Pair256Lemmas
pub mod EightLemmas
pub mod Pair512Lemmas
pub mod LaneLemmas
mod ChMaj
