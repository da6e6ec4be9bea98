pub mod Extracting
pub mod Inspecting
-- Definitions for private contracts and proofs. Public contracts don't use them.
pub mod Linking
pub mod Judged
pub mod Loading
pub mod Rooted
pub mod Routines
pub mod Showing
pub mod Spelling
pub mod Gathering
pub mod Supplying
pub mod StubFiles
