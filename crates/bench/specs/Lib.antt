pub mod Ended
pub mod Growth
pub mod Linking
pub mod Middle
