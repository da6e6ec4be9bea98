-- In which memory, and by which rule, the sections of a fragment were placed. That new fragments are placed one after another, in the order
-- of their closure, is this project's own rule.
use Rattle.std.specs.Prelude.{◌≡◌, ◌⊎◌, ◌==◌, ℕ, ◌+◌, true, false, List, [], ◌∷◌, ◌++◌, if◌then◌else◌, length}
use Rattle.cfm_memory.specs.Extents.{Rule, at_given, at_lowest, rule_after}
use Rattle.cfm_memory.specs.Instances.{Layout}
use Rattle.cfm_memory.specs.Placement.{with_new}
use Rattle.cfm_memory.specs.declared.place.Place.{Place}
use Rattle.cfm_prepare.specs.Contexts.{ContextState}
use Rattle.cfm_prepare.specs.Fragments.{Present, is_present, places_of}
use Rattle.cfm_prepare.specs.Runs.{Runs, Step, closed, freed, prepared, prepared_given, reserved, stored, taken_out}

-- a memory with new instances at some places
abbrev pub with_places : Layout → List Place → Layout
with_places m [] = m
with_places m (place ∷ places) = with_places (with_new m place) places

-- new fragments were placed in a memory, one after another. This is the memory in which the one in place p of the store
-- was placed: it has the sections of those before it
abbrev pub memory_for : Layout → List Present → ℕ → Layout
memory_for m [] p = m
memory_for m (f ∷ fresh) p = if f.position == p then m else memory_for (with_places m f.places) fresh p

-- how many sections those before it have
abbrev pub sections_before : List Present → ℕ → ℕ
sections_before [] p = 0
sections_before (f ∷ fresh) p = if f.position == p then 0 else length f.places + sections_before fresh p

-- the rule of placement of a step. Only preparations place sections
abbrev pub rule_of_step : Step → Rule
rule_of_step (prepared name number) = at_lowest
rule_of_step (prepared_given name addresses number) = at_given addresses
rule_of_step (closed number) = at_lowest
rule_of_step (stored name bytes) = at_lowest
rule_of_step (taken_out name) = at_lowest
rule_of_step (reserved address size) = at_lowest
rule_of_step (freed address size) = at_lowest

-- the fragment in place p wasn't present in s. It is one of the new fragments of t, which were placed by a rule. It was placed
-- in this memory, and by what is left of that rule after the sections before it: of addresses that are given, the ones after
-- theirs
pub record IsPlacedAnew (rule : Rule) (s t : ContextState) (p : ℕ) (before : Layout) (own : Rule) : Type 0 where
  pub absent : is_present s.present p ≡ false
  pub fresh : List Present
  pub present : t.present ≡ s.present ++ fresh
  pub is : before ≡ memory_for s.memory fresh p
  pub by : own ≡ rule_after rule (sections_before fresh p)

-- the fragment in place p is present, with these places
pub record IsPresentAt (s : ContextState) (p : ℕ) (places : List Place) : Type 0 where
  pub present : is_present s.present p ≡ true
  pub are : places_of s.present p ≡ places

-- in each state of a run
abbrev pub StaysAt : (steps : List Step) (s t : ContextState) → Runs s steps t → ℕ → List Place → Type 0
StaysAt [] s t run p places = IsPresentAt s p places
StaysAt (step ∷ steps) s t run p places = IsPresentAt s p places × StaysAt steps run.0 t run.2 p places

-- a run of steps comes through this state
abbrev pub ComesThrough : (steps : List Step) (s t : ContextState) → Runs s steps t → ContextState → Type 0
ComesThrough [] s t run m = m ≡ s
ComesThrough (step ∷ steps) s t run m = (m ≡ s) ⊎ ComesThrough steps run.0 t run.2 m

-- a step of a run placed the fragment in place p in this memory by this rule. In each state since then the fragment has been present
-- with the places that it has at the end
abbrev pub WasPlaced : (steps : List Step) (s t : ContextState) → Runs s steps t → ℕ → Layout → Rule → Type 0
WasPlaced [] s t run p before own = ⊥
WasPlaced (step ∷ steps) s t run p before own =
    (IsPlacedAnew (rule_of_step step) s run.0 p before own × StaysAt steps run.0 t run.2 p (places_of t.present p))
    ⊎ WasPlaced steps run.0 t run.2 p before own

-- after a preparation by a rule from s to t: the fragment in place p was placed in this memory by what is left of the rule, or it
-- was present and keeps its places
abbrev pub IsPlacedOrKept : Rule → ContextState → ContextState → ℕ → Layout → Rule → Type 0
IsPlacedOrKept rule s t p before own = IsPlacedAnew rule s t p before own ⊎ IsPresentAt s p (places_of t.present p)
