pub mod Sums
pub mod Headers
pub mod Entries
pub mod Contents
pub mod Laying
pub mod Parts
pub mod Nodes
pub mod Filling
