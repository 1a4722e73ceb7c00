pub mod WholeRooms
pub mod WholeWraps
pub mod ShortNumbers
pub mod OverTheorems
