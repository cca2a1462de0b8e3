pub mod Drafting
pub mod Finishing
pub mod Fronts
pub mod Gone
pub mod Listing
pub mod Moments
pub mod Naming
