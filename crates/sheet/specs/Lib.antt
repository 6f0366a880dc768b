-- Sheets, how they are checked and read. In document 01's order.

pub mod Word
pub mod Sheet
pub mod Check
pub mod Entry
pub mod Contents
pub mod Demands
