-- The code's own invariant, which the contracts of its private functions cite. The public contract cites none of it.
pub mod Memory
pub mod Lent
pub mod Bounds
pub mod Replies
pub mod Onward
pub mod Skips
pub mod Halts
pub mod GivenReplies
