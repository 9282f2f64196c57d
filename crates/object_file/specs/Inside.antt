-- What the code goes by on its way through a text.
pub mod Instructions
pub mod Lists
pub mod Reading
pub mod Tables
