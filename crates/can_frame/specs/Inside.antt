-- What the fields of a frame mean.
pub mod Frame
