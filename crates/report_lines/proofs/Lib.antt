-- The laws of the report's text.
pub mod Stores
pub mod Fields
pub mod Verdicts
pub mod States
pub mod Rooms
pub mod Turns
pub mod Cuts
pub mod Demands
