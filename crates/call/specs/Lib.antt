-- The shape of a call: its checks in order, its answer and final buffer by them, and demand 1.
pub mod Verdict
pub mod Call
pub mod Demands
