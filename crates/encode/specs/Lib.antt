pub mod Encode
pub mod Laid
pub mod Made
pub mod Laws
pub mod Node
