pub mod Seated
pub mod SizeLaws
pub mod AdmitLaws
pub mod SeatLaws
