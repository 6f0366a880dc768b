-- What a pattern means, the counted search and its answer, the published definition, and what is demanded of them.
pub mod Variables
pub mod Language
pub mod Meaning
pub mod Order
pub mod Search
pub mod Place
pub mod Answer
pub mod Next
pub mod AntiTerm
pub mod Ground
pub mod Scope
pub mod Published
pub mod Cost
pub mod Demands
pub mod Rides
