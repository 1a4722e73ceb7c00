pub mod Device
pub mod Faults
pub mod Passing
pub mod ReadError
pub mod SinkError
