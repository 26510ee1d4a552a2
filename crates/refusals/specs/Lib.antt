pub mod Refusals
pub mod Listed
pub mod Slots
