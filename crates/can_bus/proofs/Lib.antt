-- The order of requests, sets of requests, and the laws of the bus.
pub mod Precedence
pub mod Requests
pub mod Winner
pub mod NextNumbers
pub mod RankLemmas
pub mod Wire
pub mod RequestsCommute
pub mod SoundStays
pub mod FramesCome
pub mod DueLater
pub mod Arbitration
