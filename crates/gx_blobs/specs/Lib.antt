pub mod BlobsFaults
pub mod Blobs
pub mod Steps
pub mod Printing
pub mod Naming
pub mod Laws
