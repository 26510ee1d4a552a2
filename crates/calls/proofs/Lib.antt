pub mod Merging
pub mod Showing
pub mod Entering
pub mod Alike
pub mod Keeping
pub mod OneStep
pub mod Runs
