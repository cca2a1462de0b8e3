pub mod ManifestParts
pub mod ManifestText
