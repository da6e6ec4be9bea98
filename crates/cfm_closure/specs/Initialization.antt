-- The order of initialization routines (Mac OS Runtime Architectures, "Code Fragment Manager",
-- "Fragment-Defined Initialization and Termination Routines").
use Rattle.std.specs.Prelude.{ℕ, zero, suc, not, ◌&&◌, Bool, List, [], ◌∷◌, length, Option, None, Some, Result, Ok, Err, if◌then◌else◌}
use Rattle.std.specs.Option.{is_none, option_and_then, unwrap_or}
use Rattle.pef_words.specs.Refusals.{first_among}
use Rattle.pef_format.specs.Symbols.{options_of}
use Rattle.pef_format.specs.declared.place.Part.TheVariants as part
use Rattle.pef_loader.specs.Library.{Library}
use Rattle.pef_loader.specs.Loader.{library_of}
use Rattle.cfm_store.specs.Stores.{Pair, pair_of}
use Rattle.cfm_closure.specs.Faults.{BindRefusal, init_loop}
use Rattle.cfm_closure.specs.Fragments.{library_count, loader_at, place_at}
use Rattle.cfm_closure.specs.Libraries.{library_at}
use Rattle.cfm_closure.specs.Walk.{Walked, is_marked, joining, marking, unwalked}

-- the fragment that must be initialized before the one in a place, by library entry l; none if the entry
-- requires no such order, or its library is absent
abbrev pub before_at : List Pair → ℕ → ℕ → Option Library → Option ℕ
before_at pairs p l None = None
before_at pairs p l (Some library) = if (options_of library.fields.options).init_before then library_at pairs p l else None

abbrev pub before_of : List Pair → ℕ → ℕ → Option ℕ
before_of pairs p l = before_at pairs p l (option_and_then (λ x. library_of x l) (loader_at pairs p))

-- l, if entry l is one of a fragment that must come first and wasn't taken
abbrev pub awaits : List Pair → Walked → ℕ → ℕ → Option ℕ
awaits pairs s p l = option_and_then (λ q. if is_marked s q then None else Some l) (before_of pairs p l)

-- all fragments that must come first were taken
abbrev pub is_ready : List Pair → Walked → ℕ → Bool
is_ready pairs s p = is_none (first_among (awaits pairs s p) 0 (library_count pairs p))

-- the first library entry of a fragment that must come first and wasn't taken, or the number of entries if there is none
unfoldable pub awaited : List Pair → Walked → ℕ → ℕ
awaited pairs s p = unwrap_or (first_among (awaits pairs s p) 0 (library_count pairs p)) (library_count pairs p)

-- the first fragment of an order that wasn't taken and is ready
abbrev pub next_ready : List Pair → Walked → List ℕ → Option ℕ
next_ready pairs s [] = None
next_ready pairs s (p ∷ order) = if not (is_marked s p) && is_ready pairs s p then Some p else next_ready pairs s order

-- the first fragment of an order that wasn't taken
abbrev pub first_left : Walked → List ℕ → Option ℕ
first_left s [] = None
first_left s (p ∷ order) = if is_marked s p then first_left s order else Some p

-- no fragment is ready: all are taken, or the first that is left is refused, for the options of the library that it awaits
abbrev pub taken_all : List Pair → Walked → Option ℕ → Result (List ℕ) BindRefusal
taken_all pairs s None = Ok s.order
taken_all pairs s (Some p) = Err (init_loop (pair_of pairs p).name (place_at pairs p part.Library (awaited pairs s p) 20))

-- the next fragment is taken, and others after it
abbrev pub take_next : (Walked → Result (List ℕ) BindRefusal) → List Pair → List ℕ → Walked → Option ℕ → Result (List ℕ) BindRefusal
take_next on pairs order s None = taken_all pairs s (first_left s order)
take_next on pairs order s (Some p) = on (joining p (marking p s))

-- repeatedly the first fragment that is ready is taken, n times at most
unfoldable pub take_ready : ℕ → List Pair → List ℕ → Walked → Result (List ℕ) BindRefusal
take_ready zero pairs order s = taken_all pairs s (first_left s order)
take_ready (suc n) pairs order s = take_next (take_ready n pairs order) pairs order s (next_ready pairs s order)

-- the initialization order of a closure order, or the refusal: each fragment is taken once
unfoldable pub init_order_of : List Pair → List ℕ → Result (List ℕ) BindRefusal
init_order_of pairs order = take_ready (length order) pairs order (unwalked pairs)
