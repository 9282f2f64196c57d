-- What private functions mean. No public clause speaks of it.
pub mod Token
pub mod Stack
pub mod Expression
pub mod Statement
pub mod File
pub mod Goals
