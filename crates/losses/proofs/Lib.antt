pub mod Leaving
pub mod Keeping
pub mod Fairness
pub mod Computed
pub mod Failures
pub mod Comparing
pub mod Lockstep
