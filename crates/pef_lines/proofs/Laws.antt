-- What this crate offers to the proofs of others: facts of parts and lines, as `specs/` defines them.

-- a text without such a byte is one part; its first part ends before the first such byte
pub use Rattle.pef_lines.proofs.LineLemmas.{parts_of-last, parts_of-cut}
-- the same of lines
pub use Rattle.pef_lines.proofs.LineLemmas.{lines_of-last, lines_of-cut}
-- a text is what is before a cut, its byte, and what is after it, which is shorter than the text
pub use Rattle.pef_lines.proofs.LineLemmas.{cut_at-parts, cut_at-shorter}
-- the first word of a line ends at its first space; a line has a word
pub use Rattle.pef_lines.proofs.CursorLemmas.{words_of-cut, words_of-some}
