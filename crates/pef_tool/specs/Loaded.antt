-- The text that is printed of a connection in a context (README, `pef load`): its fragments in closure order, each with
-- its sections, then the initialization routines in the order in which they would run, the main entry point, and the
-- termination routines in the reverse order.
use Rattle.std.specs.Prelude.{ℕ, List, [], ◌∷◌, ◌++◌, Option, codes, map}
use Rattle.std.specs.Option.{option_and_then, option_map_or, unwrap_or}
use Rattle.cfm_store.specs.Stores.{name_at}
use Rattle.cfm_prepare.specs.Fragments.{places_of}
use Rattle.cfm_prepare.specs.Contexts.{ContextState, open_of}
use Rattle.cfm_prepare.specs.Readers.{entries_of, main_address}
use Rattle.cfm_sections.specs.declared.entries.Entries.{Entries}
use Rattle.pef_ports.specs.Names.{name_text}
use Rattle.pef_tool.specs.Fragment.{PlacedSection, entry_text, placed_section, sections_text}
use Rattle.pef_tool.specs.Answers.Faults.{name_end}

-- the name of the fragment at a position in the store
abbrev pub fragment_name : ContextState → ℕ → List ℕ
fragment_name s p = unwrap_or (name_at s.pairs p) []

-- the fragments of a connection, in closure order
abbrev pub order_in : ContextState → ℕ → List ℕ
order_in s number = option_map_or (λ o. o.closed.order) (open_of s.connections number) []

-- the fragments of a connection in the order of their initialization
abbrev pub init_order_in : ContextState → ℕ → List ℕ
init_order_in s number = option_map_or (λ o. o.closed.init_order) (open_of s.connections number) []

-- the sections of a fragment, with their addresses
abbrev pub sections_in : ContextState → ℕ → List PlacedSection
sections_in s p = map (placed_section s.memory) (places_of s.present p)

-- the entry points of a fragment of a connection
abbrev pub entries_in : ContextState → ℕ → ℕ → Option Entries
entries_in s number p = option_and_then (λ o. entries_of s.present o p) (open_of s.connections number)

-- the main entry point of a connection's root
abbrev pub main_in : ContextState → ℕ → Option ℕ
main_in s number = option_and_then (λ o. main_address s.present o) (open_of s.connections number)

-- a fragment's name and sections
abbrev pub fragment_text : ContextState → ℕ → List ℕ
fragment_text s p = codes "fragment " ++ name_end (fragment_name s p) ++ sections_text 0 (sections_in s p)

-- the names and sections of several fragments
abbrev pub fragments_text : ContextState → List ℕ → List ℕ
fragments_text s [] = []
fragments_text s (p ∷ ps) = fragment_text s p ++ fragments_text s ps

-- the text before the address in the line of an entry point
abbrev pub entry_label : List ℕ → List ℕ → List ℕ
entry_label word name = word ++ name_text name ++ codes " "

-- the line of a fragment's initialization routine, if it has one
abbrev pub init_text : ContextState → ℕ → ℕ → List ℕ
init_text s number p = entry_text (entry_label (codes "init ") (fragment_name s p)) (option_and_then (λ e. e.init) (entries_in s number p))

-- the lines of several fragments' initialization routines, in this order
abbrev pub inits_text : ContextState → ℕ → List ℕ → List ℕ
inits_text s number [] = []
inits_text s number (p ∷ ps) = init_text s number p ++ inits_text s number ps

-- the line of a fragment's termination routine, if it has one
abbrev pub term_text : ContextState → ℕ → ℕ → List ℕ
term_text s number p = entry_text (entry_label (codes "term ") (fragment_name s p)) (option_and_then (λ e. e.term) (entries_in s number p))

-- the lines of several fragments' termination routines, in reverse order
abbrev pub terms_text : ContextState → ℕ → List ℕ → List ℕ
terms_text s number [] = []
terms_text s number (p ∷ ps) = terms_text s number ps ++ term_text s number p

-- the text that is printed of a connection
abbrev pub loaded_text : ContextState → ℕ → List ℕ
loaded_text s number =
    fragments_text s (order_in s number)
    ++ inits_text s number (init_order_in s number)
    ++ entry_text (codes "main ") (main_in s number)
    ++ terms_text s number (init_order_in s number)
