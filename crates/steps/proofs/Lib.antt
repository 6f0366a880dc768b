-- The laws of one turn.
pub mod Turns
