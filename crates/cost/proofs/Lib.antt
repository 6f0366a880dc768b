-- The laws: from a pattern's bytes to its nodes, and what the answer promises.
pub mod Tally
pub mod Demanded
