-- The text that is printed of a routine of either kind.
use Rattle.std.specs.Prelude.{ℕ, ◌-◌, List, Option, codes}
use Rattle.std.specs.Option.{option_and_then}
use Rattle.cfm_sections.specs.declared.entries.Entries.{Entries}
use Rattle.cfm_prepare.specs.Contexts.{ContextState}
use Rattle.pef_tool.specs.Fragment.{entry_text}
use Rattle.pef_tool.specs.Loaded.{entries_in, entry_label, fragment_name, inits_text, terms_text}
use Rattle.pef_tool.specs.declared.loaded.Routine.{Routine}
use Rattle.pef_tool.specs.declared.loaded.Routine.TheVariants.{Init, Term}

-- the start of the routine's line
abbrev pub word_of : Routine → List ℕ
word_of Init = codes "init "
word_of Term = codes "term "

-- the address of a fragment's routine, if it has one
abbrev pub address_in : Routine → Entries → Option ℕ
address_in Init entries = entries.init
address_in Term entries = entries.term

-- the position, among some fragments in the order of their initialization, of the one whose routine runs after those of
-- i others
abbrev pub place_of : Routine → ℕ → ℕ → ℕ
place_of Init count i = i
place_of Term count i = count - 1 - i

-- the routine's line, if a fragment has the routine
abbrev pub routine_text : Routine → ContextState → ℕ → ℕ → List ℕ
routine_text r s number p = entry_text (entry_label (word_of r) (fragment_name s p)) (option_and_then (address_in r) (entries_in s number p))

-- the lines of several fragments, given in the order of their initialization
abbrev pub routines_text : Routine → ContextState → ℕ → List ℕ → List ℕ
routines_text Init s number order = inits_text s number order
routines_text Term s number order = terms_text s number order
