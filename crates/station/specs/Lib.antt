-- A station: its current record and eight kept ones, where they lie, what is checked, and what the calls on it do.
pub mod Slot
pub mod Check
pub mod Call
pub mod Shelf
pub mod Session
pub mod Demands
