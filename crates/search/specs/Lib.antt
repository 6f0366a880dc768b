-- The search on bytes. The public contracts cite the others; Inner is what the private functions keep to.
pub mod State
pub mod Level
pub mod Shown
pub mod Given
pub mod Spread
pub mod Following
pub mod Inner
