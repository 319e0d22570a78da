pub mod LeafLaws
pub mod HistoryLaws
mod BatchLaws
