pub mod Fair
pub mod Left
pub mod Laws
pub mod Examples
pub mod Compared
