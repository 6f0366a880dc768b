-- The laws: from the search on trees to what the calls promise (Demanded, NextDemanded).
pub mod Checks
pub mod Answered
pub mod Cost
pub mod Matched
pub mod Demanded
pub mod Follows
pub mod Calls
pub mod NextDemanded
