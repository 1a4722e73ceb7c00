pub mod TreeReading
pub mod PlaneReading
pub mod FormLists
