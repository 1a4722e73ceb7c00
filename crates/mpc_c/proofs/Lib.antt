pub mod Written
pub mod FileEnds
pub mod TextEnds
pub mod TableEnds
pub mod StateEnds
