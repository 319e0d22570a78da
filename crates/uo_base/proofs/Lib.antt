pub mod Lists
pub mod Formats
pub mod GrewLaws
pub mod CompactLaws
pub mod PortLemmas
pub mod Walks
pub mod EvenParts
pub mod Bits
