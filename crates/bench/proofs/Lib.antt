pub mod Unlinking
