-- Of every call: its checks pass exactly on accepted input, and it is handled as demand 1 asks.
pub mod Brought
pub mod Checks
pub mod Handled
