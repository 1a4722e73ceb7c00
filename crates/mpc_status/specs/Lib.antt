pub mod SpotText
pub mod LateText
pub mod StatusText
