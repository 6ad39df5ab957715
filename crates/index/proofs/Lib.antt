pub mod Folds
pub mod Runs
pub mod Showing
pub mod Twins
pub mod Rising
pub mod Alike
