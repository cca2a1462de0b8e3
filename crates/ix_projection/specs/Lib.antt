pub mod Alike
pub mod Asked
pub mod Kept
pub mod Laws
