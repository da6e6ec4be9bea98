-- A fragment with linked bytes that is present in a context has the memory that its script describes.
use Rattle.std.proofs.Common.{◌≡◌, ℕ, Bool, true, false, List, [], None, Some, Ok, Contains, length, option_map, refl, sym, ap, subst, ◌∙◌, inl, inr, arith}
use Rattle.std.specs.Option.{option_and_then, option_map_or}
use Rattle.std.specs.Result.{result_ok}
use Rattle.cfm_store.specs.Stores.{Pair, pair_of}
use Rattle.cfm_closure.specs.Fragments.{Fragment, container_at, fragment_of, import_count, loader_at}
use Rattle.cfm_sections.specs.Images.{extents_of, first_image_refusal}
use Rattle.cfm_sections.specs.Prepared.{addresses_at, first_reloc_refusal, prepared_at}
use Rattle.cfm_memory.specs.Extents.{ArePlacedBy, Rule}
use Rattle.cfm_memory.specs.Instances.{Layout}
use Rattle.cfm_memory.specs.declared.place.Place.{Place}
use Rattle.cfm_memory.proofs.Laws.{length-placed}
use Rattle.cfm_prepare.specs.Addresses.{addresses_from, addresses_of}
use Rattle.cfm_prepare.specs.Fragments.{Present, extents_in, image_refusal_in, is_present, places_of, prepared_in, reloc_refusal_in}
use Rattle.cfm_prepare.specs.Options.{Choices}
use Rattle.cfm_prepare.specs.Contexts.{ContextState, made_state}
use Rattle.cfm_prepare.specs.Now.{IsPreparedNow}
use Rattle.cfm_prepare.specs.Runs.{Runs, Step}
use Rattle.cfm_prepare.specs.Steps.{PreparesBy}
use Rattle.cfm_prepare.proofs.Laws.{length-addresses, run-now, run-prepares}
use Rattle.pef_loader.specs.Loader.{Loaded}
use Rattle.pef_reloc.specs.Applied.{Addresses, address_of}
use Rattle.pef_script.specs.Described.{described_at}
use Rattle.pef_script.specs.Script.{DescribedScript}
use Rattle.pef_views.specs.Container.{Contained}
use Rattle.pef_write.specs.Linked.{IsLinked, LinkedContainer}
use Rattle.pef_headline.specs.Now.{IsDescribedNow}
use Rattle.pef_headline.specs.Placed.{IsPlacedAnew, IsPlacedOrKept, WasPlaced}
use Rattle.pef_headline.proofs.DescribedLemmas.{AreAddresses, addresses_are, extents_are, headers_sound, images_sound, length-extents, prepared_is}
use Rattle.pef_headline.proofs.LinkedLemmas.{FragmentLinked, fragment_linked, read_fragment}
use Rattle.pef_headline.proofs.PlacedLemmas.{FoundPlaces, begun, still, was-found}

module _ (script : DescribedScript) (k : LinkedContainer) (linked : IsLinked script k) (pairs : List Pair) (p : ℕ) (holds : (pair_of pairs p).bytes ≡ k.bytes) where
  -- it is read as the script's container
  pub read_as_linked : FragmentLinked script k linked pairs p
  read_as_linked = fragment_linked script k linked pairs p holds

  -- the fragment that the bytes are read as
  abbrev pub linked_fragment : Fragment
  linked_fragment = read_fragment script k linked pairs p

  container-is : container_at pairs p ≡ Some linked_fragment.container
  container-is = ap (λ r. option_map (λ (f : Fragment). f.container) (result_ok r)) read_as_linked.read

  pub loader-is : loader_at pairs p ≡ Some linked_fragment.loader
  loader-is = ap (λ r. option_map (λ (f : Fragment). f.loader) (result_ok r)) read_as_linked.read

  pub count-is : import_count pairs p ≡ length script.imports
  count-is = ap (λ o. option_map_or (λ (l : Loaded). l.header.import_count) o 0) loader-is ∙ read_as_linked.of.tables.import_count

  pub extents-in : extents_in pairs p ≡ extents_of linked_fragment.container
  extents-in = ap (λ o. option_map_or extents_of o []) container-is

  prepared-in : (a : Addresses) (i : ℕ) → prepared_in pairs a p i ≡ prepared_at linked_fragment.container linked_fragment.loader a i
  prepared-in a i =
      ap (λ o. option_map_or (λ (c : Contained). option_map_or (λ (l : Loaded). prepared_at c l a i) (loader_at pairs p) []) o []) container-is
      ∙ ap (λ o. option_map_or (λ (l : Loaded). prepared_at linked_fragment.container l a i) o []) loader-is

  -- with places, its sections and its imports have addresses
  addressed : (rule : Rule) (all : List Present) (before empty : Layout) (places : List Place) → ArePlacedBy rule before (extents_in pairs p) places empty → AreAddresses script (addresses_at places (addresses_from pairs all p 0 (import_count pairs p)))
  addressed rule all before empty places placed =
      addresses_are script k linked linked_fragment.container linked_fragment.loader read_as_linked.of rule before empty (addresses_from pairs all p 0 (import_count pairs p)) places (length-addresses pairs all p 0 (import_count pairs p) ∙ count-is)
      (subst (λ es. ArePlacedBy rule before es places empty) extents-in placed)

  -- so it is described, in the memory that it was placed in
  pub described-from : (s : ContextState) (now : IsPreparedNow pairs s p) → (d : IsDescribedNow pairs s script p) × (d.before ≡ now.before) × (d.rule ≡ now.rule)
  described-from s now =
      let places = places_of s.present p in
      let imports = addresses_from pairs s.present p 0 (import_count pairs p) in
      let here : ArePlacedBy now.rule now.before (extents_of linked_fragment.container) places now.empty = subst (λ es. ArePlacedBy now.rule now.before es places now.empty) extents-in now.placed in
      let sizes = length-placed now.rule now.before (extents_of linked_fragment.container) places now.empty here ∙ length-extents script k linked linked_fragment.container linked_fragment.loader read_as_linked.of in
      let are = addressed now.rule s.present now.before now.empty places now.placed in (
        record {
          rule = now.rule;
          before = now.before;
          empty = now.empty;
          placed = subst (λ es. ArePlacedBy now.rule now.before es places now.empty) (extents_are script k linked linked_fragment.container linked_fragment.loader read_as_linked.of) here;
          stand = λ i under.
              now.stand i under
              ∙ ap Some (prepared-in (addresses_at places imports) i ∙ prepared_is script k linked linked_fragment.container linked_fragment.loader read_as_linked.of (addresses_at places imports) are i (omega (arith, under, sizes))
              ∙ ap (λ n. described_at (address_of (addresses_at places (addresses_from pairs s.present p 0 n))) script i) count-is);
        },
        refl,
        refl,
      )

  -- whichever the rule and the memory are by which it found its places
  described-in : (s : ContextState) (rule : Rule) (before : Layout) → IsPreparedNow pairs s p → FoundPlaces rule pairs before p (places_of s.present p) → (d : IsDescribedNow pairs s script p) × (d.before ≡ before) × (d.rule ≡ rule)
  described-in s rule before now found = described-from s (record { rule = rule; before = before; empty = found.0; placed = found.1; stand = now.stand })

-- after any list of steps, in the memory of the last preparation before which it wasn't present
pub present-described : (script : DescribedScript) (k : LinkedContainer) (pairs : List Pair) (choices : Choices) (steps : List Step) (s : ContextState) (p : ℕ) → IsLinked script k → (pair_of s.pairs p).bytes ≡ k.bytes → (run : Runs (made_state pairs choices) steps s)
    → is_present s.present p ≡ true → (d : IsDescribedNow s.pairs s script p) × WasPlaced steps (made_state pairs choices) s run p d.before d.rule
present-described script k pairs choices steps s p linked holds run is =
    let was = was-found pairs choices p steps s run is in
    let d = described-in script k linked s.pairs p holds s was.rule was.before (run-now pairs choices steps s p run is) was.found in
    (d.0, subst (WasPlaced steps (made_state pairs choices) s run p d.0.before) (sym d.2) (subst (λ before. WasPlaced steps (made_state pairs choices) s run p before was.rule) (sym d.1) was.was))

-- after a preparation of a closure that has it, in that of this preparation, if it wasn't present
pub closure-described : (rule : Rule) (script : DescribedScript) (k : LinkedContainer) (pairs : List Pair) (choices : Choices) (steps : List Step) (s t : ContextState) (name : List ℕ) (number p : ℕ) → IsLinked script k → (pair_of t.pairs p).bytes ≡ k.bytes → Runs (made_state pairs choices) steps s
    → (step : PreparesBy rule s name number t) → Contains step.closure.closed.order p → (is_present t.present p ≡ true) × (d : IsDescribedNow t.pairs t script p) × IsPlacedOrKept rule s t p d.before d.rule
closure-described rule script k pairs choices steps s t name number p linked holds run step there = by (is_present s.present p) refl
  where
    now : (is_present t.present p ≡ true) × IsPreparedNow t.pairs t p
    now = run-prepares pairs choices steps s t name number p run step there

    by : (b : Bool) → is_present s.present p ≡ b → (is_present t.present p ≡ true) × (d : IsDescribedNow t.pairs t script p) × IsPlacedOrKept rule s t p d.before d.rule
    by true was = (now.0, (described-from script k linked t.pairs p holds t now.1).0, inr (still rule s t name number p step was))
    by false absent =
        let new = begun rule s t name number p step absent now.0 in
        let d = described-in script k linked t.pairs p holds t new.own new.before now.1 new.found in
        (now.0, d.0, inl (subst (IsPlacedAnew rule s t p d.0.before) (sym d.2) (subst (λ before. IsPlacedAnew rule s t p before new.own) (sym d.1) new.anew)))

-- such a fragment is read, and neither an image nor a relocation header of it is refused
pub linked-read : (script : DescribedScript) (k : LinkedContainer) (pairs : List Pair) (p : ℕ) → IsLinked script k → (pair_of pairs p).bytes ≡ k.bytes → (f : Fragment) × (fragment_of pairs p ≡ Ok f)
linked-read script k pairs p linked holds = (linked_fragment script k linked pairs p holds, (read_as_linked script k linked pairs p holds).read)

pub linked-filled : (script : DescribedScript) (k : LinkedContainer) (pairs : List Pair) (p : ℕ) → IsLinked script k → (pair_of pairs p).bytes ≡ k.bytes → image_refusal_in pairs p ≡ None
linked-filled script k pairs p linked holds =
    let f = read_fragment script k linked pairs p in
    ap (λ o. option_and_then (λ (c : Contained). first_image_refusal c c.header.instantiated_section_count) o) (container-is script k linked pairs p holds)
    ∙ images_sound script k linked f.container f.loader (read_as_linked script k linked pairs p holds).of

pub linked-relocated : (rule : Rule) (script : DescribedScript) (k : LinkedContainer) (pairs : List Pair) (p : ℕ) (all : List Present) (before empty : Layout) (places : List Place) → IsLinked script k → (pair_of pairs p).bytes ≡ k.bytes → ArePlacedBy rule before (extents_in pairs p) places empty
    → reloc_refusal_in pairs (addresses_of pairs all (record { position = p; places = places })) p ≡ None
linked-relocated rule script k pairs p all before empty places linked holds placed =
    let f = read_fragment script k linked pairs p in
    let a = addresses_at places (addresses_from pairs all p 0 (import_count pairs p)) in
    ap (λ o. option_and_then (λ (c : Contained). option_and_then (λ (l : Loaded). first_reloc_refusal c l a) (loader_at pairs p)) o) (container-is script k linked pairs p holds)
    ∙ ap (λ o. option_and_then (λ (l : Loaded). first_reloc_refusal f.container l a) o) (loader-is script k linked pairs p holds)
    ∙ headers_sound script k linked f.container f.loader (read_as_linked script k linked pairs p holds).of a (addressed script k linked pairs p holds rule all before empty places placed)
