-- A context that gave no connection took no steps.
use Rattle.std.proofs.Common.{◌≡◌, ◌≤◌, ◌+◌, ℕ, List, [], ◌∷◌, Some, ap, refl, sym, subst, ◌∙◌, inl, inr, arith}
use Rattle.cfm_memory.specs.Extents.{empty_memory}
use Rattle.cfm_memory.specs.Instances.{Layout}
use Rattle.cfm_memory.specs.Reservation.{Reserves, Unreserves, reserved_range, with_range, without_range}
use Rattle.cfm_store.specs.Stores.{Pair}
use Rattle.cfm_prepare.specs.Options.{Choices}
use Rattle.cfm_prepare.specs.Contexts.{ContextState, Open, added, made_state, open_of, removed, unused_state}
use Rattle.cfm_prepare.specs.Runs.{Runs, Step, closed, freed, prepared, prepared_given, reserved, stored, taken_out}

-- numbers are never reused
given-grows : (s t : ContextState) (steps : List Step) → Runs s steps t → s.given ≤ t.given
given-grows s t [] run = (let same : t.given ≡ s.given = ap (λ (x : ContextState). x.given) run in omega (arith, same))
given-grows s t (prepared name number ∷ steps) run = (let more = given-grows run.0 t steps run.2 in omega (arith, more, run.1.given))
given-grows s t (prepared_given name addresses number ∷ steps) run = (let more = given-grows run.0 t steps run.2 in omega (arith, more, run.1.given))
given-grows s t (closed number ∷ steps) run = (let more = given-grows run.0 t steps run.2 in omega (arith, more, run.1.given))
given-grows s t (reserved address size ∷ steps) run =
    (let more = given-grows run.0 t steps run.2 in let same : run.0.given ≡ s.given = ap (λ (x : ContextState). x.given) run.1.is in omega (arith, more, same))
given-grows s t (freed address size ∷ steps) run =
    (let more = given-grows run.0 t steps run.2 in let same : run.0.given ≡ s.given = ap (λ (x : ContextState). x.given) run.1.is in omega (arith, more, same))
given-grows s t (stored name bytes ∷ steps) run =
    (let more = given-grows run.0 t steps run.2 in let same : run.0.given ≡ s.given = ap (λ (x : ContextState). x.given) run.1.is in omega (arith, more, same))
given-grows s t (taken_out name ∷ steps) run =
    (let more = given-grows run.0 t steps run.2 in let same : run.0.given ≡ s.given = ap (λ (x : ContextState). x.given) run.1.is in omega (arith, more, same))

none-open : (number : ℕ) (o : Open) → open_of [] number ≡ Some o → ⊥
none-open number o is = cc

-- but for its store and its reserved ranges it is a new one
abbrev IsUnused : Choices → ContextState → Type 0
IsUnused choices s = s ≡ unused_state s.pairs choices s.memory.reserved

-- a reservation changes nothing else of a memory without instances
still-empty : (m after : Layout) (choices : Choices) (address size : ℕ) → m ≡ record (empty_memory choices.granule choices.limit) { reserved = m.reserved } → Reserves m address size after → after ≡ record (empty_memory choices.granule choices.limit) { reserved = after.reserved }
still-empty m after choices address size empty (inl none) = subst (λ (k : Layout). k ≡ record (empty_memory choices.granule choices.limit) { reserved = k.reserved }) (sym none.1) empty
still-empty m after choices address size empty (inr some) =
    let ranges = with_range m.reserved (reserved_range address size) in
    subst (λ (k : Layout). k ≡ record (empty_memory choices.granule choices.limit) { reserved = k.reserved }) (sym some.2) (ap (λ (k : Layout). record k { reserved = ranges }) empty)

unused-reserve : (s : ContextState) (memory : Layout) (choices : Choices) (address size : ℕ) → IsUnused choices s → Reserves s.memory address size memory → IsUnused choices (record s { memory = memory })
unused-reserve s memory choices address size fresh reserves =
    let empty = still-empty s.memory memory choices address size (ap (λ (u : ContextState). u.memory) fresh) reserves in
    ap (λ (u : ContextState). record u { memory = memory }) fresh ∙ ap (λ (k : Layout). record (made_state s.pairs choices) { memory = k }) empty

-- nor does a range that is given back
frees-empty : (m after : Layout) (choices : Choices) (address size : ℕ) → m ≡ record (empty_memory choices.granule choices.limit) { reserved = m.reserved } → Unreserves m address size after → after ≡ record (empty_memory choices.granule choices.limit) { reserved = after.reserved }
frees-empty m after choices address size empty (inl none) = subst (λ (k : Layout). k ≡ record (empty_memory choices.granule choices.limit) { reserved = k.reserved }) (sym none.1) empty
frees-empty m after choices address size empty (inr some) =
    let ranges = without_range m.reserved (reserved_range address size) in
    subst (λ (k : Layout). k ≡ record (empty_memory choices.granule choices.limit) { reserved = k.reserved }) (sym some.2) (ap (λ (k : Layout). record k { reserved = ranges }) empty)

unused-free : (s : ContextState) (memory : Layout) (choices : Choices) (address size : ℕ) → IsUnused choices s → Unreserves s.memory address size memory → IsUnused choices (record s { memory = memory })
unused-free s memory choices address size fresh frees =
    let empty = frees-empty s.memory memory choices address size (ap (λ (u : ContextState). u.memory) fresh) frees in
    ap (λ (u : ContextState). record u { memory = memory }) fresh ∙ ap (λ (k : Layout). record (made_state s.pairs choices) { memory = k }) empty

unused-from : (s t : ContextState) (choices : Choices) (steps : List Step) → IsUnused choices s → Runs s steps t → t.given ≡ 0 → IsUnused choices t
unused-from s t choices [] fresh run none = subst (IsUnused choices) (sym run) fresh
unused-from s t choices (prepared name number ∷ steps) fresh run none =
    (let more = given-grows run.0 t steps run.2 in let one : run.0.given ≡ s.given + 1 = run.1.given in absurd (omega (arith, more, one, none)))
unused-from s t choices (prepared_given name addresses number ∷ steps) fresh run none =
    (let more = given-grows run.0 t steps run.2 in let one : run.0.given ≡ s.given + 1 = run.1.given in absurd (omega (arith, more, one, none)))
unused-from s t choices (closed number ∷ steps) fresh run none = absurd (none-open number run.1.closed (sym (ap (λ (s : ContextState). open_of s.connections number) fresh) ∙ run.1.was))
unused-from s t choices (stored name bytes ∷ steps) fresh run none =
    unused-from run.0 t choices steps (subst (IsUnused choices) (sym run.1.is) (ap (λ (s : ContextState). added s name bytes) fresh)) run.2 none
unused-from s t choices (taken_out name ∷ steps) fresh run none =
    unused-from run.0 t choices steps (subst (IsUnused choices) (sym run.1.is) (ap (λ (s : ContextState). removed s run.1.unused.root) fresh)) run.2 none
unused-from s t choices (reserved address size ∷ steps) fresh run none =
    unused-from run.0 t choices steps (subst (IsUnused choices) (sym run.1.is) (unused-reserve s run.1.memory choices address size fresh run.1.reserves)) run.2 none
unused-from s t choices (freed address size ∷ steps) fresh run none =
    unused-from run.0 t choices steps (subst (IsUnused choices) (sym run.1.is) (unused-free s run.1.memory choices address size fresh run.1.frees)) run.2 none

pub run-unused : (pairs : List Pair) (choices : Choices) (steps : List Step) (t : ContextState) → Runs (made_state pairs choices) steps t → t.given ≡ 0 → t ≡ unused_state t.pairs choices t.memory.reserved
run-unused pairs choices steps t run none = unused-from (made_state pairs choices) t choices steps refl run none
