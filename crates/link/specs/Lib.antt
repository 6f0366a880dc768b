-- Accepted input, and what the search on its bytes comes to.
pub mod Input
pub mod OnBytes
