pub mod Table
pub mod Exchange
pub mod RunEnd
pub mod Leaving
pub mod WholeNumbers
