-- Laws and theorems of the plain tier; Demands has the theorems that the others lead to.
pub mod Failing
pub mod Agreeing
pub mod Counting
pub mod Checking
pub mod Among
pub mod Nodes
pub mod Holding
pub mod Sight
pub mod Turns
pub mod Looked
pub mod Parted
pub mod Variables
pub mod Linked
pub mod Checks
pub mod Demanded
