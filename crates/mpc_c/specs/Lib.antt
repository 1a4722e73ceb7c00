pub mod Fractions
pub mod Findings
pub mod Texts
pub mod Tables
pub mod States
