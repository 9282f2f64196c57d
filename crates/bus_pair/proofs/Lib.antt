-- What a request leaves of its channel.
pub mod Request
