-- What public clauses cite. What only proofs and private functions cite is the last part of Reading, `ahead`,
-- `is_opening` and `is_making`.
pub mod Ahead
pub mod Bits
pub mod Compact
pub mod Faults
pub mod FeedEvent
pub mod Files
pub mod MemPorts
pub mod Moved
pub mod Plans
pub mod Reading
pub mod Told
