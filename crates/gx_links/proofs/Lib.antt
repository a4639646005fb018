pub mod BodyLinks
