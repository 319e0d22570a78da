pub mod NodeAlike
pub mod Following
