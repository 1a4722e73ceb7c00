pub mod PlantNumbers
pub mod LimitNumbers
