mod Small
mod WholeSystems
mod WholeAppended
mod TurnedWhole
