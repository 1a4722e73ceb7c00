pub mod WholeFits
pub mod Terms
pub mod WholeDots
