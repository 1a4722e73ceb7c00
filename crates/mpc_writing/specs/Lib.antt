pub mod Writing
pub mod Names
pub mod FormNames
pub mod PlaneNames
