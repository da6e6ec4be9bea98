-- The root of a closure, and what is tested of its new fragments.
use Rattle.std.proofs.Common.{◌≡◌, Ok, Some, ℕ, ◌+◌, List, [], ◌∷◌, Contains, length, get_or, sym, ap, subst, ◌∙◌, arith}
use Rattle.std.proofs.Math.Seq.{get_or-append_seam}
use Rattle.std.proofs.lemmas.List.{length-append}
use Rattle.cfm_closure.proofs.Laws.{closed-init}
use Rattle.cfm_closure.specs.Closures.{Closed, closed_of}
use Rattle.cfm_closure.specs.Orders.{EndsWith}
use Rattle.cfm_store.specs.Stores.{Pair, place_of}
use Rattle.cfm_memory.specs.Extents.{Rule, at_given, at_lowest}
use Rattle.cfm_memory.specs.Instances.{Layout}
use Rattle.cfm_prepare.specs.Bounds.{AreWithin, bytes_in, steps_in}
use Rattle.cfm_prepare.specs.Contexts.{ContextState}
use Rattle.cfm_prepare.specs.Fragments.{Present, new_among}
use Rattle.cfm_prepare.specs.Kept.Bounds.{IsPastBounds}
use Rattle.cfm_prepare.specs.Steps.{HasClosure, IsMiscounted, MayNotPrepareBy, new_of}
use Rattle.cfm_prepare.specs.NewSections.{AreNewSections, MayNotTellSections}
use Rattle.cfm_prepare.specs.Placing.{IsRuleFor, section_total}
use Rattle.cfm_prepare.specs.declared.new_sections.NewSection.{NewSection}
use Rattle.cfm_prepare.proofs.NewLemmas.{length-sections}
use Rattle.cfm_prepare.specs.declared.fault.PrepareFault.{PrepareFault}
use Rattle.cfm_prepare.specs.declared.fault.PrepareFault.TheVariants as fault
use Rattle.cfm_prepare.specs.declared.options.Options.{Options}
use Rattle.cfm_prepare.specs.Kept.Connections.{AreOfClosure}
use Rattle.cfm_prepare.proofs.ListLemmas.{has-at, has-contains}

-- the last of an order is in it
pub ends-contains : (order : List ℕ) (p : ℕ) → EndsWith order p → Contains order p
ends-contains order p ends =
    let front = ends.0 in
    let size : length order ≡ length front + 1 = ap length ends.1 ∙ length-append front (p ∷ []) in
    (length front, omega (arith, size), ap (λ xs. get_or xs (length front) p) ends.1 ∙ get_or-append_seam front p [] p)

-- the fragments of a closure's initialization order are its own
pub of-closure : (pairs : List Pair) (root : ℕ) (c : Closed) → closed_of pairs root ≡ Ok c → AreOfClosure c
of-closure pairs root c is = λ p there. has-at c.order p (((closed-init pairs root c is).same p).0 (has-contains c.init_order p there))

-- what was tested of a closure holds of the store
pub within-of : (pairs store : List Pair) (there : List Present) (m : Layout) (options : Options) (order : List ℕ) → store ≡ pairs → AreWithin options.bytes (bytes_in store m.granule) (new_among there order) → AreWithin options.steps (steps_in store) (new_among there order)
    → AreWithin options.bytes (bytes_in pairs m.granule) (new_among there order) × AreWithin options.steps (steps_in pairs) (new_among there order)
within-of pairs store there m options order same bytes steps = (
  subst (λ (ps : List Pair). AreWithin options.bytes (bytes_in ps m.granule) (new_among there order)) same bytes,
  subst (λ (ps : List Pair). AreWithin options.steps (steps_in ps) (new_among there order)) same steps,
)

-- so does why they take too much
pub past-of : (rule : Rule) (s : ContextState) (name : List ℕ) (closure : HasClosure s name) (store : List Pair) (f : PrepareFault) → store ≡ s.pairs → IsPastBounds store s.memory.granule s.bounds (new_of s closure.closed) f → MayNotPrepareBy rule s name f
past-of rule s name closure store fault.TooManyConnections same past = absurd past
past-of rule s name closure store fault.RootMissing same past = absurd past
past-of rule s name closure store (fault.Bind f) same past = absurd past
past-of rule s name closure store (fault.TooManyBytes f) same past =
    let Q : List Pair → Type 0 = λ ps. IsPastBounds ps s.memory.granule s.bounds (new_of s closure.closed) (fault.TooManyBytes f) in
    let here = subst Q same past in
    record { closure = closure; position = here.0; passes = here.1; is = here.2 }
past-of rule s name closure store (fault.TooManyStepsInAll f) same past =
    let Q : List Pair → Type 0 = λ ps. IsPastBounds ps s.memory.granule s.bounds (new_of s closure.closed) (fault.TooManyStepsInAll f) in
    let here = subst Q same past in
    record { closure = closure; bytes = here.0; position = here.1; passes = here.2; is = here.3 }
past-of rule s name closure store (fault.Fragment f) same past = absurd past
past-of rule s name closure store fault.OutOfMemory same past = absurd past

-- then the new sections aren't told, either
pub past-tells : (s : ContextState) (name : List ℕ) (closure : HasClosure s name) (store : List Pair) (f : PrepareFault) → store ≡ s.pairs → IsPastBounds store s.memory.granule s.bounds (new_of s closure.closed) f → MayNotTellSections s name f
past-tells s name closure store fault.TooManyConnections same past = absurd past
past-tells s name closure store fault.RootMissing same past = absurd past
past-tells s name closure store (fault.Bind f) same past = absurd past
past-tells s name closure store (fault.TooManyBytes f) same past = past-of at_lowest s name closure store (fault.TooManyBytes f) same past
past-tells s name closure store (fault.TooManyStepsInAll f) same past = past-of at_lowest s name closure store (fault.TooManyStepsInAll f) same past
past-tells s name closure store (fault.Fragment f) same past = absurd past
past-tells s name closure store fault.OutOfMemory same past = absurd past

-- a fragment has one closure
pub same-closed : (s : ContextState) (name : List ℕ) (a b : HasClosure s name) → a.closed ≡ b.closed
same-closed s name a b =
    let here : place_of s.pairs name ≡ Some a.has.root = a.has.is in
    let there : place_of s.pairs name ≡ Some b.has.root = b.has.is in
    let roots : a.has.root ≡ b.has.root = cc in
    let one : closed_of s.pairs a.has.root ≡ Ok a.closed = a.is in
    let other : closed_of s.pairs a.has.root ≡ Ok b.closed = ap (closed_of s.pairs) roots ∙ b.is in
    cc

-- as many addresses as sections are for the new fragments
pub counted-by : (s : ContextState) (name addresses : List ℕ) (sections : List NewSection) → AreNewSections s name sections → length addresses ≡ length sections → (closed : Closed) (root : ℕ) → place_of s.pairs name ≡ Some root → closed_of s.pairs root ≡ Ok closed
    → IsRuleFor (at_given addresses) s.pairs (new_of s closed)
counted-by s name addresses sections told count closed root is closes =
    let other : HasClosure s name = record { has = record { left = told.closure.has.left; root = root; is = is }; closed = closed; is = closes } in
    count ∙ ap length told.are ∙ length-sections s.pairs s.memory.granule (new_of s told.closure.closed) ∙ ap (λ k. section_total s.pairs (new_of s k)) (same-closed s name told.closure other)

-- another number of addresses isn't
pub miscounted-by : (s : ContextState) (name addresses : List ℕ) (sections : List NewSection) → AreNewSections s name sections → (length sections ≡ length addresses → ⊥) → IsMiscounted s name addresses
miscounted-by s name addresses sections told other = record {
  closure = told.closure;
  within = told.within;
  not = λ same. other (ap length told.are ∙ length-sections s.pairs s.memory.granule (new_of s told.closure.closed) ∙ sym same);
}
