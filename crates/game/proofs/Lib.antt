-- Laws of the game.
pub mod Turns
pub mod Forces
pub mod Tries
pub mod Plans
pub mod Begun
pub mod Exact
pub mod Sides
pub mod Steps
pub mod Rulings
pub mod Templates
pub mod Calls
