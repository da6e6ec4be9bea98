-- The fragments that a preparation places are sound.
use Rattle.std.proofs.Common.{◌≡◌, ◌∙◌, ℕ, List, [], ◌∷◌, ◌++◌, length, Option, None, Some, Ok, Err, Result, All, Contains, refl, sym, ap, subst}
use Rattle.std.specs.List.{AllByRecursion}
use Rattle.std.specs.Option.{option_and_then, option_map, option_map_or, option_or}
use Rattle.std.specs.Result.{result_ok}
use Rattle.std.proofs.lemmas.List.{length-map}
use Rattle.std.proofs.lemmas.List.Elements.{recursion_from_All}
use Rattle.pef_views.specs.Container.{Contained, container_of}
use Rattle.pef_views.specs.declared.fault.ViewFault.{ViewFault}
use Rattle.pef_loader.specs.Loader.{Loaded, loaded_of}
use Rattle.pef_loader.specs.declared.fault.LoaderFault.{LoaderFault}
use Rattle.cfm_store.specs.Stores.{Pair, pair_of}
use Rattle.cfm_closure.specs.Fragments.{Fragment, container_at, fragment_of, import_count, loader_at, with_container, with_loader}
use Rattle.cfm_closure.specs.Orders.{IsComplete}
use Rattle.cfm_closure.proofs.Laws.{closed-complete}
use Rattle.cfm_memory.specs.Extents.{ArePlacedBy, Rule, rule_after}
use Rattle.cfm_memory.specs.Instances.{Layout}
use Rattle.cfm_memory.specs.declared.place.Place.{Place}
use Rattle.cfm_prepare.specs.Addresses.{addresses_from, addresses_of, first_bad_program}
use Rattle.cfm_prepare.specs.Fragments.{Present, extents_in, first_bad_image, image_refusal_in, named, positions, reloc_refusal_in}
use Rattle.cfm_sections.specs.Images.{first_image_refusal}
use Rattle.cfm_prepare.specs.Placing.{AllPlacedBy}
use Rattle.cfm_sections.specs.Prepared.{addresses_at, first_reloc_refusal}
use Rattle.cfm_prepare.proofs.Laws.{length-addresses, length-there, new-members}
use Rattle.pef_inspect.specs.Sound.{IsSound}
use Rattle.cfm_sound.specs.Placed.{PlacedAreSound}
use Rattle.cfm_sound.proofs.PreparedLemmas.{prepared-sound}

-- a fragment that is read has a container and a loader section
record IsRead (bytes : List ℕ) (f : Fragment) : Type 0 where
  pub contained : container_of bytes ≡ Ok f.container
  pub loaded : loaded_of f.container.header.instantiated_section_count f.container.loader ≡ Ok f.loader

read-parts : (pairs : List Pair) (p : ℕ) (f : Fragment) → fragment_of pairs p ≡ Ok f → IsRead (pair_of pairs p).bytes f
unfolding fragment_of
read-parts pairs p f read = by (container_of (pair_of pairs p).bytes) refl read
  where
    at : (c : Contained) (r : Result Loaded LoaderFault) → container_of (pair_of pairs p).bytes ≡ Ok c → loaded_of c.header.instantiated_section_count c.loader ≡ r → with_loader (pair_of pairs p).name c r ≡ Ok f → IsRead (pair_of pairs p).bytes f
    at c (Ok l) contained loaded is =
        let same : record { name = (pair_of pairs p).name; container = c; loader = l } ≡ f = cc is in
        subst (IsRead (pair_of pairs p).bytes) same (record { contained = contained; loaded = loaded })
    at c (Err fault) contained loaded is = absurd (cc is)

    by : (r : Result Contained ViewFault) → container_of (pair_of pairs p).bytes ≡ r → with_container (pair_of pairs p).name r ≡ Ok f → IsRead (pair_of pairs p).bytes f
    by (Ok c) contained is = at c (loaded_of c.header.instantiated_section_count c.loader) contained refl is
    by (Err fault) contained is = absurd (cc is)

-- a fragment that was placed, and of which nothing is refused
one-sound : (rule : Rule) (pairs : List Pair) (all : List Present) (p : ℕ) (places : List Place) (before after : Layout) (f : Fragment) → fragment_of pairs p ≡ Ok f → ArePlacedBy rule before (extents_in pairs p) places after → image_refusal_in pairs p ≡ None
    → reloc_refusal_in pairs (addresses_of pairs all (record { position = p; places = places })) p ≡ None → IsSound (pair_of pairs p).bytes
one-sound rule pairs all p places before after f read placed filled relocated =
    let parts = read-parts pairs p f read in
    let a = addresses_at places (addresses_from pairs all p 0 (import_count pairs p)) in
    let container_is : container_at pairs p ≡ Some f.container = ap (λ r. option_map (λ (g : Fragment). g.container) (result_ok r)) read in
    let loader_is : loader_at pairs p ≡ Some f.loader = ap (λ r. option_map (λ (g : Fragment). g.loader) (result_ok r)) read in
    let count : import_count pairs p ≡ f.loader.header.import_count = ap (λ o. option_map_or (λ (l : Loaded). l.header.import_count) o 0) loader_is in
    let sections : length a.sections ≡ f.container.header.instantiated_section_count = length-map places (λ (q : Place). q.address) ∙ length-there rule pairs p f.container before after places container_is placed in
    let imports : length a.imports ≡ f.loader.header.import_count = length-addresses pairs all p 0 (import_count pairs p) ∙ count in
    let images : first_image_refusal f.container f.container.header.instantiated_section_count ≡ None =
    sym (ap (λ o. option_and_then (λ (c : Contained). first_image_refusal c c.header.instantiated_section_count) o) container_is) ∙ filled in
    let headers : first_reloc_refusal f.container f.loader a ≡ None =
    sym (ap (λ o. option_and_then (λ (c : Contained). option_and_then (λ (l : Loaded). first_reloc_refusal c l a) (loader_at pairs p)) o) container_is ∙ ap (λ o. option_and_then (λ (l : Loaded). first_reloc_refusal f.container l a) o) loader_is)
    ∙ relocated in
    prepared-sound (pair_of pairs p).bytes f.container parts.contained images f.loader parts.loaded a sections imports headers

-- if none of two is refused, neither is
none-both : {F : Type 0} (pairs : List Pair) (p : ℕ) (o : Option F) (rest : Option (List ℕ × F)) → option_or (named pairs p o) rest ≡ None → (o ≡ None) × (rest ≡ None)
none-both pairs p None rest none = (refl, none)
none-both pairs p (Some fault) rest none = absurd (cc none)

-- so all of some fragments are sound
all-sound : (rule : Rule) (pairs : List Pair) (order : List ℕ) (complete : IsComplete pairs order) (all : List Present) (m : Layout) (fs : List Present) (after : Layout) → AllPlacedBy rule pairs m fs after → AllByRecursion (λ p. Contains order p) (positions fs)
    → first_bad_image pairs fs ≡ None → first_bad_program pairs all fs ≡ None → AllByRecursion (λ (f : Present). IsSound (pair_of pairs f.position).bytes) fs
all-sound rule pairs order complete all m [] after placed members filled relocated = tt
all-sound rule pairs order complete all m (f ∷ fs) after placed members filled relocated =
    let image = none-both pairs f.position (image_refusal_in pairs f.position) (first_bad_image pairs fs) filled in
    let program = none-both pairs f.position (reloc_refusal_in pairs (addresses_of pairs all f) f.position) (first_bad_program pairs all fs) relocated in
    let member = complete.members f.position members.0 in
    (one-sound rule pairs all f.position f.places m placed.0 member.fragment member.read placed.1 image.0 program.0, all-sound (rule_after rule (length f.places)) pairs order complete all placed.0 fs after placed.2 members.1 image.1 program.1)

pub placed_are_sound : PlacedAreSound
placed_are_sound rule s t name number step =
    let closed = step.closure.closed in
    let are = step.prepared.are in
    let P : List ℕ → Type 0 = λ ps. All (λ p. Contains closed.order p) ps in
    let members = recursion_from_All (λ p. Contains closed.order p) (positions step.fresh) (subst P (sym are.are) (new-members s.present closed.order)) in
    all-sound rule s.pairs closed.order (closed-complete s.pairs step.closure.has.root closed step.closure.is) (s.present ++ step.fresh) s.memory step.fresh are.empty are.placed members step.prepared.filled step.prepared.relocated
