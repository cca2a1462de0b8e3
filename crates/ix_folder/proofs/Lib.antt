pub mod Laws
mod Lists
mod Naming
mod Preparing
mod Replacing
mod Swept
