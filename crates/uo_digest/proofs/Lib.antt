pub mod DigestLaws
mod Columns
pub mod BatchLemmas
