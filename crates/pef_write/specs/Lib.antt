pub mod Fields
pub mod Containers
pub mod Loaders
pub mod Linked
pub mod ReadBack
pub mod LeastPrograms
pub mod ExportContainers
pub mod Kept
