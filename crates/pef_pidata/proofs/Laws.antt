-- Facts of packed data, as `specs/` defines it, for the proofs of other crates.

-- packed bytes expand to their image
pub use Rattle.pef_pidata.proofs.Packings.{packed-expands}
-- there are at most twice as many packed bytes as the image has
pub use Rattle.pef_pidata.proofs.Packings.{length-packed_of}
-- what packed bytes spell has the length that they are expanded to
pub use Rattle.pef_pidata.proofs.Lengths.{pattern_text-length}
