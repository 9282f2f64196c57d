-- The laws of the bus with planned errors.
pub mod Counts
pub mod Waits
pub mod RequestsCommute
pub mod SoundStays
pub mod FramesCome
pub mod DueLater
pub mod Finish
pub mod OffStays
pub mod Unplanned
