pub mod Print
pub mod Scopes
pub mod Records
pub mod Nodes
pub mod Refused
pub mod Answers
