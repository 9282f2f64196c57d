-- Lemmas on the register of the CRC, on fields, on stuffing and on lengths.
mod CrcSteps
mod Runs
mod FieldSteps
mod NibbleSteps
pub mod OneStuffing
pub mod Lengths
