-- How a sheet is written, and what is demanded of it.
pub mod Writing
pub mod Demands
