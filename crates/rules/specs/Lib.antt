-- A rule sheet against one record: how its rules are tried, the call, and what is demanded of it.
pub mod Trial
pub mod Call
pub mod Demands
