-- What the C interface shows, and what is demanded of it.
pub mod Shown
pub mod Edition
pub mod Demands
pub mod Told
pub mod Example
pub mod Station
pub mod Game
