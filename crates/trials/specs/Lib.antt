pub mod Congruence
pub mod Digests
pub mod Numbers
pub mod Samples
