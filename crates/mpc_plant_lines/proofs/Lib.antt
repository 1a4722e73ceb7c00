pub mod PlantLineLemmas
pub mod MirrorLemmas
pub mod LimitLemmas
pub mod PlantTexts
pub mod PlantShapes
