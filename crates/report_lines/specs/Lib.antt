-- The report's text: lines, the checks of the files, and the whole report. In document 01's order.
pub mod Line
pub mod Verdict
pub mod Report
pub mod Demands
