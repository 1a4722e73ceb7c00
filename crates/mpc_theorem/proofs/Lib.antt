pub mod Numbered
pub mod Walks
pub mod NumberWords
pub mod PlantLines
pub mod LawLines
pub mod TreeLines
pub mod FileLines
mod FirstLemmas
mod RowPlaces
mod ProgramPlaces
mod BoundPlaces
mod ProgramRefusals
mod CheckRefusals
mod StateRefusals
mod DecisionPlaces
mod SearchPlaces
mod PlantRefusals
mod PlantNumbers
mod PlantChecks
mod PlantValues
mod PlantObjects
mod PlantWeights
mod PlantRows
mod PlantTexts
mod FaultChecks
mod FaultRows
mod PlantFaults
mod OutputLines
pub mod RightControllers
mod TheFiles
pub mod HistoryLemmas
pub mod TraceLemmas
pub mod TagLemmas
pub mod TurnLemmas
pub mod TextLemmas
pub mod SafeLemmas
