-- What a rule can cost at most: the call, and what is demanded of it.
pub mod Call
pub mod Tally
pub mod Demands
