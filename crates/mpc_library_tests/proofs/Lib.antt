pub mod SmallPrograms
