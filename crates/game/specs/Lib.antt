-- Loader and sender, document 02's L13: moves, plans and plays, the search of the game, the call, and what is demanded of it.
pub mod Move
pub mod Accepted
pub mod Plan
pub mod Search
pub mod Begun
pub mod Handed
pub mod Call
pub mod Demands
pub mod Lent
pub mod Turns
