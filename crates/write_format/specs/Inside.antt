-- What the code goes by on its way to a format.
pub mod Chars
pub mod Shown
