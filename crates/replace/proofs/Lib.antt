-- Laws of replacement.
pub mod Forests
pub mod Marks
pub mod Stored
pub mod Limits
pub mod Parts
pub mod Instances
pub mod Templates
pub mod Splices
pub mod Results
pub mod Replacements
pub mod Fillings
pub mod Placings
pub mod Checks
pub mod Demands
pub mod Looks
pub mod Calls
