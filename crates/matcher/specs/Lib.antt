-- The match of one pattern against one record: the call, and what is demanded of it.
pub mod Call
pub mod Next
pub mod Cost
pub mod Demands
