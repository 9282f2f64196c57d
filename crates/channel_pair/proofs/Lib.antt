-- The laws of the bus of two channels.
pub mod RequestsCommute
pub mod SoundStays
pub mod FramesCome
pub mod DueLater
pub mod Finish
pub mod OneChannel
