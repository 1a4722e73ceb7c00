pub mod Vector
pub mod Matrix
pub mod Total
pub mod Definite
pub mod Optimality
