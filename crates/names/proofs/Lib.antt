pub mod Pieces
pub mod Keeping
pub mod Names
pub mod Indexes
pub mod Naming
pub mod TypeNames
pub mod Actions
pub mod Entities
