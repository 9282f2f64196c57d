-- Definitions that only contracts of private functions cite.
pub mod Agenda
pub mod Fault
pub mod Handler
pub mod Host
pub mod NodeFields
pub mod Tables
pub mod Wanted
