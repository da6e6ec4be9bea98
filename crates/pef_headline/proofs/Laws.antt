-- Facts of linked fragments, for the proofs of other crates.

-- a linked container's sections need the memory that the script describes
pub use Rattle.pef_headline.proofs.DescribedLemmas.{extents_are}
-- none of its images is refused, nor of its relocation headers if its sections and imports have addresses
pub use Rattle.pef_headline.proofs.DescribedLemmas.{AreAddresses, headers_sound, images_sound}
pub use Rattle.pef_headline.proofs.LinkedLemmas.{IsContainerOf}
-- a linked container is read back, and has the described memory under the present addresses
pub use Rattle.pef_headline.proofs.NowLemmas.{described-from, extents-in, linked-read, linked_fragment, loader-is, read_as_linked}
-- a fragment that is refused for an image or a relocation header wasn't linked
pub use Rattle.pef_headline.proofs.RefusedLemmas.{refused-image, refused-program}
