-- Words to which programs add more than one address. How many words are compared is bounded (this project's own).
use Rattle.std.specs.Prelude.{ℕ, ◌==◌, ◌&&◌, ◌||◌, Bool, false, List, [], ◌∷◌, Option, None, Some, Result, Ok, Err, length, map, if◌then◌else◌}
use Rattle.std.specs.Option.{option_map, option_map_or}
use Rattle.pef_words.specs.Findings.{all_among}
use Rattle.pef_format.specs.declared.place.Part.TheVariants as part
use Rattle.pef_views.specs.Container.{Contained}
use Rattle.pef_views.specs.Partial.{sections_allowed}
use Rattle.pef_loader.specs.Loader.{Loaded}
use Rattle.pef_loader.specs.Partial as loader
use Rattle.pef_loader.specs.Partial.{RelocationRow, partial_of}
use Rattle.pef_loader.specs.declared.fault.LoaderFault.{LoaderFault}
use Rattle.pef_reloc.specs.Traces.{fixups_of}
use Rattle.pef_reloc.specs.declared.fixup.Fixup.{Fixup}
use Rattle.pef_reloc.specs.declared.verifying.Sizes.{Sizes}
use Rattle.pef_inspect.specs.Errors.{programs_unverified, run_at}
use Rattle.pef_inspect.specs.Limits.{checked_within, within}
use Rattle.pef_inspect.specs.declared.limits.Limits.{Limits}
use Rattle.pef_inspect.specs.Oddities.{note_at, runs_reached}
use Rattle.pef_inspect.specs.declared.finding.Finding.{Finding}
use Rattle.pef_inspect.specs.declared.note.Note.TheVariants.{WordRelocatedTwice}

-- the section that relocation header k is for
abbrev pub section_at : Loaded → ℕ → ℕ
section_at l k = option_map_or (λ (r : RelocationRow). r.section) (loader.relocation_row l k) 0

-- the words to which some additions in a section add: the section, and the offset in it
abbrev pub words_in : ℕ → List Fixup → List (ℕ × ℕ)
words_in section fixups = map (λ (f : Fixup). (section, f.offset)) fixups

-- the words to which the program of relocation header k adds an address, if it is readable and for an instantiated section
abbrev pub words_at : Contained → Loaded → ℕ → List (ℕ × ℕ)
words_at c l k = option_map_or (λ (r : Sizes × List ℕ). words_in (section_at l k) (fixups_of r.1)) (run_at c l k) []

-- .. and those to which the programs of the relocation headers before it add
abbrev pub words_before : Contained → Loaded → ℕ → List (ℕ × ℕ)
words_before c l k = all_among (words_at c l) 0 k

-- a word is one of some
abbrev pub is_among : List (ℕ × ℕ) → ℕ × ℕ → Bool
is_among [] word = false
is_among (x ∷ words) word = (word.0 == x.0 && word.1 == x.1) || is_among words word

-- the first word that is also one of those before it
abbrev pub first_again : List (ℕ × ℕ) → List (ℕ × ℕ) → Option (ℕ × ℕ)
first_again before [] = None
first_again before (word ∷ words) = if is_among before word then Some word else first_again (word ∷ before) words

-- how many words of a program are compared
abbrev pub words_cost : Contained → Loaded → ℕ → ℕ
words_cost c l k = length (words_at c l k)

-- the note on a word to which the program of relocation header k adds again
abbrev pub again_note : Contained → ℕ → Option (ℕ × ℕ) → Option Finding
again_note c k word = option_map (λ (w : ℕ × ℕ). note_at c (WordRelocatedTwice w.1) part.Program k 0) word

-- the note on the first word of the program of relocation header k to which it or an earlier program has already added
abbrev pub twice_note : Contained → Loaded → ℕ → Option Finding
twice_note c l k = again_note c k (first_again (words_before c l k) (words_at c l k))

-- the notes on the programs that are verified, and that on those with too many words
abbrev pub twice_notes : Limits → Contained → Loaded → List Finding
twice_notes limits c l = checked_within (words_cost c l) (twice_note c l) (programs_unverified c) limits.words (runs_reached limits c l)

-- how many programs are searched for such words
abbrev pub words_reached : Limits → Contained → Loaded → ℕ
words_reached limits c l = within (words_cost c l) limits.words 0 (runs_reached limits c l)

abbrev pub loader_twice : Limits → Contained → Result Loaded LoaderFault → List Finding
loader_twice limits c (Ok l) = twice_notes limits c l
loader_twice limits c (Err f) = []

-- the notes on a container
unfoldable pub twice_in : Limits → Contained → List Finding
twice_in limits c = loader_twice limits c (partial_of (sections_allowed c) c.loader)
