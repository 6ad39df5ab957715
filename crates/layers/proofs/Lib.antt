pub mod Buffers
pub mod Cover
mod Examples
pub mod Keep
pub mod Look
pub mod Marks
pub mod Moves
pub mod Others
pub mod Put
pub mod Refuse
pub mod Start
pub mod Steps
pub mod Told
pub mod Turns
pub mod Words
