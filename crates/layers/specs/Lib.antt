pub mod Batch
pub mod Buffered
pub mod Sanity
pub mod WriteBuffer
