pub mod Few
pub mod Added
pub mod One
pub mod Additions
pub mod RowLaws
pub mod Carrying
pub mod Rising
pub mod Packing
