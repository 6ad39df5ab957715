pub mod Shown
pub mod Blocks
pub mod Names
pub mod Runs
pub mod Beaten
pub mod Missed
