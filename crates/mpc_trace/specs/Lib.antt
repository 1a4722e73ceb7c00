pub mod Histories
pub mod DrillPlant
pub mod SearchTree
pub mod Drills
