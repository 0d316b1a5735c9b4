mod DoneLaws
mod FullLaws
pub mod StopLaws
pub mod ClientLaws
pub mod SeatLaws
pub mod FileLaws
mod Numbering
mod PointLaws
mod PointStopLaws
