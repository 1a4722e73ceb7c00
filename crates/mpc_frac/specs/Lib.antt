pub mod FracModel
pub mod Fits
pub mod Sign
pub mod Text
pub mod FitTheorems
