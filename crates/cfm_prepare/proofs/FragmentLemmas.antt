-- A fragment's container and its loader section, and how they are prepared.
use Rattle.std.proofs.Common.{◌≡◌, ℕ, zero, suc, ◌+◌, ◌-◌, ◌<◌, List, [], ◌∷◌, ◌++◌, Option, None, Some, Result, Ok, Err, length, option_map, refl, sym, ap, subst, ◌∙◌, arith}
use Rattle.std.specs.Option.{option_and_then, option_map_or}
use Rattle.std.specs.Result.{result_ok, result_unwrap_or}
use Rattle.pef_views.specs.Container.{Contained, container_of}
use Rattle.pef_views.specs.declared.fault.ViewFault.{ViewFault}
use Rattle.pef_loader.specs.Loader.{Loaded, loaded_of}
use Rattle.pef_loader.specs.declared.fault.LoaderFault.{LoaderFault}
use Rattle.pef_loader.proofs.Laws.{loaded_of-ok}
use Rattle.pef_reloc.specs.Applied.{Addresses}
use Rattle.cfm_memory.specs.Extents.{ArePlacedBy, Extent, Rule, Stand}
use Rattle.cfm_memory.specs.Instances.{Layout}
use Rattle.cfm_memory.specs.declared.place.Place.{Place}
use Rattle.cfm_store.specs.Stores.{Pair, pair_of}
use Rattle.cfm_closure.specs.Fragments.{Fragment, container_at, fragment_of, loader_at, with_container, with_loader}
use Rattle.cfm_closure.specs.Targets.{target_of}
use Rattle.cfm_closure.specs.declared.targets.Target.{Target}
use Rattle.cfm_prepare.specs.Kept.Begun.{section_placed}
use Rattle.cfm_sections.specs.Begun.{placed_at}
use Rattle.cfm_sections.specs.Images.{extents_of, filled_at, first_image_refusal}
use Rattle.cfm_sections.specs.Prepared.{first_reloc_refusal, prepared_at}
use Rattle.cfm_sections.proofs.Laws.{length-fragment}
use Rattle.cfm_prepare.specs.Addresses.{addresses_from, import_address, target_address}
use Rattle.cfm_prepare.specs.Fragments.{Present, extents_in, image_refusal_in, prepared_in, reloc_refusal_in, section_filled}
use Rattle.cfm_prepare.proofs.PlacingLemmas.{append-assoc}

of-loader : (name : List ℕ) (k : Contained) (r : Result Loaded LoaderFault) (l : Loaded) → loaded_of k.header.instantiated_section_count k.loader ≡ r
    → option_map (λ (f : Fragment). f.loader) (result_ok (with_loader name k r)) ≡ Some l
    → (c : Contained) × (option_map (λ (f : Fragment). f.container) (result_ok (with_loader name k r)) ≡ Some c) × (l.sections ≡ c.header.instantiated_section_count)
of-loader name k (Ok x) l is loader =
    let also : x ≡ l = cc in
    (k, refl, sym (ap (λ (y : Loaded). y.sections) also) ∙ sym (loaded_of-ok k.header.instantiated_section_count k.loader x is).1)
of-loader name k (Err fault) l is loader = absurd (cc)

of-container : (name : List ℕ) (r : Result Contained ViewFault) (l : Loaded) → option_map (λ (f : Fragment). f.loader) (result_ok (with_container name r)) ≡ Some l
    → (c : Contained) × (option_map (λ (f : Fragment). f.container) (result_ok (with_container name r)) ≡ Some c) × (l.sections ≡ c.header.instantiated_section_count)
of-container name (Ok k) l loader = of-loader name k (loaded_of k.header.instantiated_section_count k.loader) l refl loader
of-container name (Err fault) l loader = absurd (cc)

-- a loader section that was read has a container, and knows the number of its instantiated sections
pub container-of : (pairs : List Pair) (p : ℕ) (l : Loaded) → loader_at pairs p ≡ Some l → (c : Contained) × (container_at pairs p ≡ Some c) × (l.sections ≡ c.header.instantiated_section_count)
unfolding fragment_of
container-of pairs p l loader = of-container (pair_of pairs p).name (container_of (pair_of pairs p).bytes) l loader

-- the places of a fragment that was placed are those of its container's sections
pub placed-there : (rule : Rule) (pairs : List Pair) (p : ℕ) (c : Contained) (before after : Layout) (places : List Place) → container_at pairs p ≡ Some c → ArePlacedBy rule before (extents_in pairs p) places after → ArePlacedBy rule before (extents_of c) places after
placed-there rule pairs p c before after places is placed =
    let P : List Extent → Type 0 = λ es. ArePlacedBy rule before es places after in
    subst P (ap (λ o. option_map_or extents_of o []) is) placed

pub length-there : (rule : Rule) (pairs : List Pair) (p : ℕ) (c : Contained) (before after : Layout) (places : List Place) → container_at pairs p ≡ Some c → ArePlacedBy rule before (extents_in pairs p) places after → length places ≡ c.header.instantiated_section_count
length-there rule pairs p c before after places is placed = length-fragment rule c before after places (placed-there rule pairs p c before after places is placed)

-- how a section is filled, and why it may not be
filled-there : (pairs : List Pair) (p : ℕ) (c : Contained) (k : ℕ) → container_at pairs p ≡ Some c → section_filled pairs p k ≡ filled_at c k
filled-there pairs p c k is = ap (λ o. option_map_or (λ (d : Contained). filled_at d k) o []) is

pub image-there : (pairs : List Pair) (p : ℕ) (c : Contained) (n : ℕ) → container_at pairs p ≡ Some c → n ≡ c.header.instantiated_section_count → image_refusal_in pairs p ≡ first_image_refusal c n
image-there pairs p c n is count =
    ap (λ o. option_and_then (λ (d : Contained). first_image_refusal d d.header.instantiated_section_count) o) is ∙ ap (first_image_refusal c) (sym count)

-- the same for a fragment that is relocated
pub stand-there : (pairs : List Pair) (p : ℕ) (c : Contained) (m : Layout) (places : List Place) → container_at pairs p ≡ Some c → Stand m places (section_filled pairs p) → Stand m places (filled_at c)
stand-there pairs p c m places is stand = λ k under. stand k under ∙ ap Some (filled-there pairs p c k is)

pub begun-there : (pairs : List Pair) (p : ℕ) (c : Contained) (m : Layout) (places : List Place) → container_at pairs p ≡ Some c → Stand m places (section_placed pairs p) → Stand m places (placed_at c)
begun-there pairs p c m places is stand = λ k under. stand k under ∙ ap Some (ap (λ o. option_map_or (λ (d : Contained). placed_at d k) o []) is)

pub prepared-there : (pairs : List Pair) (p : ℕ) (c : Contained) (l : Loaded) (a : Addresses) (m : Layout) (places : List Place) → container_at pairs p ≡ Some c → loader_at pairs p ≡ Some l
    → Stand m places (prepared_at c l a) → Stand m places (prepared_in pairs a p)
prepared-there pairs p c l a m places is loader stand = λ k under.
    stand k under ∙ ap Some (sym (ap (λ o. option_map_or (λ (d : Contained). option_map_or (λ (e : Loaded). prepared_at d e a k) (loader_at pairs p) []) o []) is
    ∙ ap (λ o. option_map_or (λ (e : Loaded). prepared_at c e a k) o []) loader))

pub program-there : (pairs : List Pair) (p : ℕ) (c : Contained) (l : Loaded) (a : Addresses) → container_at pairs p ≡ Some c → loader_at pairs p ≡ Some l → reloc_refusal_in pairs a p ≡ first_reloc_refusal c l a
program-there pairs p c l a is loader =
    ap (λ o. option_and_then (λ (d : Contained). option_and_then (λ (e : Loaded). first_reloc_refusal d e a) (loader_at pairs p)) o) is
    ∙ ap (λ o. option_and_then (λ (e : Loaded). first_reloc_refusal c e a) o) loader

-- there is an address for each import
pub length-addresses : (pairs : List Pair) (all : List Present) (p j n : ℕ) → length (addresses_from pairs all p j n) ≡ n
length-addresses pairs all p j zero = refl
length-addresses pairs all p j (suc n) = ap suc (length-addresses pairs all p (j + 1) n)

-- the address of one import more
pub imports-next : (pairs : List Pair) (all : List Present) (p : ℕ) (items next whole : List ℕ) (j n : ℕ) (target : Option Target) (address : ℕ) → j < n → target_of pairs p j ≡ Ok target → address ≡ target_address all target
    → next ≡ items ++ address ∷ [] → items ++ addresses_from pairs all p j (n - j) ≡ whole → next ++ addresses_from pairs all p (j + 1) (n - (j + 1)) ≡ whole
imports-next pairs all p items next whole j n target address under is address_is next_is left =
    let more : n - j ≡ suc (n - (j + 1)) = omega (arith, under) in
    let rest = addresses_from pairs all p (j + 1) (n - (j + 1)) in
    let here : address ≡ import_address pairs all p j = address_is ∙ ap (λ t. target_address all (result_unwrap_or t None)) (sym is) in
    let behind : next ++ rest ≡ items ++ address ∷ rest = ap (λ xs. xs ++ rest) next_is ∙ append-assoc items (address ∷ []) rest in
    let first : items ++ address ∷ rest ≡ items ++ addresses_from pairs all p j (suc (n - (j + 1))) = ap (λ x. items ++ x ∷ rest) here in
    behind ∙ first ∙ ap (λ k. items ++ addresses_from pairs all p j k) (sym more) ∙ left
