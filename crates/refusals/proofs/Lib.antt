pub mod Bits
pub mod Sets
