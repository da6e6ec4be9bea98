-- What the readers of a context return for a fragment that has the described memory.
use Rattle.std.proofs.Common.{◌≡◌, ℕ, zero, suc, ◌+◌, ◌<◌, ◌≤◌, List, Option, None, Some, Ok, Contains, get_or, length, option_map, refl, sym, ap, subst, ◌∙◌, arith}
use Rattle.std.specs.List.{slice_get}
use Rattle.std.specs.Option.{option_and_then}
use Rattle.std.specs.Result.{result_unwrap_or}
use Rattle.std.proofs.lemmas.List.{get_or-map, length-map}
use Rattle.std.proofs.lemmas.List.Elements.{Contains-push}
use Rattle.std.proofs.lemmas.Option.{slice_get-get_or, slice_get_past}
use Rattle.cfm_closure.specs.Promises.{LiesInside}
use Rattle.cfm_store.specs.Stores.{Pair, place_of}
use Rattle.cfm_closure.specs.Targets.{target_of}
use Rattle.cfm_closure.specs.Fragments.{import_count}
use Rattle.cfm_closure.specs.declared.targets.Target.{Target}
use Rattle.cfm_closure.specs.declared.targets.Target.TheVariants.{Absolute, At}
use Rattle.cfm_store.proofs.Laws.{place_of-below}
use Rattle.cfm_closure.proofs.Laws.{closed-complete, closed-root, closed-target, target-inside}
use Rattle.cfm_memory.specs.Extents.{Rule, Stand, place_at}
use Rattle.cfm_memory.specs.Instances.{Layout}
use Rattle.cfm_memory.specs.declared.place.Place.{Place}
use Rattle.cfm_memory.proofs.Laws.{length-placed}
use Rattle.cfm_prepare.specs.Addresses.{addresses_from, import_address, section_of, target_address}
use Rattle.cfm_prepare.specs.Contexts.{ContextState, Open}
use Rattle.cfm_prepare.specs.Fragments.{Present, places_of, present_of}
use Rattle.cfm_prepare.specs.Now.{IsPreparedNow}
use Rattle.cfm_sections.specs.Prepared.{addresses_at}
use Rattle.cfm_prepare.specs.Sections.{held_at, section_present}
use Rattle.cfm_prepare.specs.Steps.{PreparesBy}
use Rattle.cfm_prepare.proofs.Laws.{container-of, length-there, run-opened, run-prepares}
use Rattle.pef_reloc.specs.Applied.{address_of}
use Rattle.pef_reloc.specs.declared.fixup.Base.{Base}
use Rattle.pef_reloc.specs.declared.fixup.Base.TheVariants.{Import, Section}
use Rattle.pef_script.specs.Described.{described_at}
use Rattle.pef_script.specs.Script.{DescribedScript}
use Rattle.pef_headline.specs.Headline.{HasLinked, IsReached}
use Rattle.pef_headline.specs.Memory.{HasLinkedText, IsImportAddress, IsTargetAddress, ReadsDescribed, fragment_reader, root_reader}
use Rattle.pef_headline.specs.Now.{IsDescribedNow, described_extent, described_extents}
use Rattle.pef_headline.proofs.HeadlineLemmas.{prepared-present}
use Rattle.pef_headline.proofs.NowLemmas.{count-is}

-- a section that stands at its place is read there
read-stands : (m : Layout) (places : List Place) (bytes : ℕ → List ℕ) (k : ℕ) → Stand m places bytes → k < length places → option_and_then (held_at m) (slice_get places k) ≡ Some ((place_at places k).address, bytes k)
read-stands m places bytes k stand under =
    let with_address : List ℕ → ℕ × List ℕ = λ bytes. ((place_at places k).address, bytes) in
    ap (option_and_then (held_at m)) (slice_get-get_or places k (record { address = 0; size = 0 }) under)
    ∙ ap (option_map with_address) (stand k under)

-- the address of one of some imports
import-at : (pairs : List Pair) (all : List Present) (p from n j : ℕ) → j < n → get_or (addresses_from pairs all p from n) j 0 ≡ import_address pairs all p (from + j)
import-at pairs all p from zero j under = absurd (omega arith)
import-at pairs all p from (suc n) zero under = let e : from ≡ from + 0 = omega arith in ap (import_address pairs all p) e
import-at pairs all p from (suc n) (suc j) under =
    let e : from + 1 + j ≡ from + suc j = omega arith in
    import-at pairs all p (from + 1) n j (omega arith) ∙ ap (import_address pairs all p) e

-- the fragments of a closure that was prepared
module _ (rule : Rule) (s t : ContextState) (name : List ℕ) (number : ℕ) (reached : IsReached s) (step : PreparesBy rule s name number t) where
  abbrev order : List ℕ
  order = step.closure.closed.order

  -- each is prepared
  now-of : (q : ℕ) → Contains order q → IsPreparedNow s.pairs t q
  now-of q there = subst (λ pairs. IsPreparedNow pairs t q) step.pairs (run-prepares reached.pairs reached.choices reached.steps s t name number q reached.run step there).1

  -- the section of a target is read
  target-read : (o : Option Target) → LiesInside s.pairs order o → IsTargetAddress t o (target_address t.present o)
  target-read None inside = refl
  target-read (Some (Absolute n)) inside = refl
  target-read (Some (At q section offset)) inside =
      let now = now-of q inside.member in
      let c = container-of s.pairs q inside.loader inside.read in
      let count : length (places_of t.present q) ≡ c.0.header.instantiated_section_count = length-there now.rule s.pairs q c.0 now.before now.empty (places_of t.present q) c.1 now.placed in
      let size = c.2 in
      let below = inside.below in
      let under : section < length (places_of t.present q) = omega arith in (
        (place_at (places_of t.present q) section).address,
        section_of s.pairs t.present (present_of t.present q) section,
        read-stands t.memory (places_of t.present q) (section_of s.pairs t.present (present_of t.present q)) section now.stand under,
        refl,
      )

  import-read : (p j : ℕ) → Contains order p → j < import_count s.pairs p → IsImportAddress t p j (import_address t.pairs t.present p j)
  import-read p j there under =
      let is = step.closure.is in
      let target = closed-target s.pairs step.closure.has.root step.closure.closed p j is there under in
      let complete = closed-complete s.pairs step.closure.has.root step.closure.closed is in
      let here : target_of t.pairs p j ≡ Ok target.0 = ap (λ pairs. target_of pairs p j) step.pairs ∙ target.1 in
      record {
        target = target.0;
        is = here;
        address_is = subst (IsTargetAddress t target.0) (sym (ap (λ r. target_address t.present (result_unwrap_or r None)) here)) (target-read target.0 (target-inside s.pairs order complete p j target.0 there target.1));
      }

  module _ (p : ℕ) (script : DescribedScript) (linked : HasLinked s.pairs p script) (there : Contains order p) where
    described : IsDescribedNow t.pairs t script p
    described = (prepared-present rule script s t name number p reached linked step there).0.memory

    abbrev places : List Place
    places = places_of t.present p

    abbrev addresses : Base → ℕ
    addresses = address_of (addresses_at places (addresses_from t.pairs t.present p 0 (length script.imports)))

    count-places : length places ≡ length script.sections
    count-places = length-placed described.rule described.before (described_extents script) places described.empty described.placed ∙ length-map script.sections described_extent

    read-section : (k : ℕ) → k < length script.sections → fragment_reader t p k ≡ Some (addresses (Section k), described_at addresses script k)
    read-section k below =
        let count = count-places in
        let under : k < length places = omega arith in
        let at_address : ℕ → Option (ℕ × List ℕ) = λ a. Some (a, described_at addresses script k) in
        read-stands t.memory places (described_at addresses script) k described.stand under
        ∙ ap at_address (sym (get_or-map (λ (q : Place). q.address) places k (record { address = 0; size = 0 }) 0 under))

    read-past : (k : ℕ) → length script.sections ≤ k → fragment_reader t p k ≡ None
    read-past k past =
        let count = count-places in
        let above : length places ≤ k = omega arith in
        ap (option_and_then (held_at t.memory)) (slice_get_past places k above)

    read-import : (j : ℕ) → j < length script.imports → IsImportAddress t p j (addresses (Import j))
    read-import j below =
        let count = count-is script linked.container linked.linked s.pairs p linked.bytes in
        let from_0 : 0 + j ≡ j = omega arith in
        subst (IsImportAddress t p j) (sym (import-at t.pairs t.present p 0 (length script.imports) j below ∙ ap (import_address t.pairs t.present p) from_0)) (import-read p j there (omega arith))

    reads : ReadsDescribed t p (fragment_reader t p) script
    reads = record { address = addresses; sections = read-section; past = read-past; imports = read-import }

pub reads-fragment : (text : List ℕ) (s t : ContextState) (rule : Rule) (name : List ℕ) (number p : ℕ) → IsReached s → (has : HasLinkedText s.pairs p text) → (step : PreparesBy rule s name number t) → Contains step.closure.closed.order p → ReadsDescribed t p (fragment_reader t p) has.script
reads-fragment text s t rule name number p reached has step there = reads rule s t name number reached step p has.script has.linked there

-- the root of a connection is a fragment of its closure
pub reads-root : (text : List ℕ) (s t : ContextState) (rule : Rule) (name : List ℕ) (number p : ℕ) → IsReached s → (has : HasLinkedText s.pairs p text) → PreparesBy rule s name number t → place_of s.pairs name ≡ Some p → ReadsDescribed t p (root_reader t number) has.script
reads-root text s t rule name number p reached has step place =
    let root = step.closure.has.root in
    let found : place_of s.pairs name ≡ Some root = step.closure.has.is in
    let same : root ≡ p = cc in
    let ends = closed-root s.pairs root step.closure.closed (place_of-below s.pairs name root found) step.closure.is in
    let there : Contains step.closure.closed.order p = subst (Contains step.closure.closed.order) same (subst (λ order. Contains order root) (sym ends.1) (Contains-push ends.0 root)) in
    let open_is = run-opened reached.pairs reached.choices reached.steps s t name number reached.run step in
    let at : (k : ℕ) → root_reader t number k ≡ fragment_reader t p k =
    λ k. (ap (option_and_then (λ (o : Open). section_present t.memory t.present o.root k)) open_is ∙ ap (λ q. section_present t.memory t.present q k) same) in
    let r = reads rule s t name number reached step p has.script has.linked there in
    record {
      address = r.address;
      sections = λ k under. at k ∙ r.sections k under;
      past = λ k past. at k ∙ r.past k past;
      imports = r.imports;
    }
