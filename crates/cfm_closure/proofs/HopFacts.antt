-- Hops by the fragments that were read.
use Rattle.std.proofs.Common.{◌≡◌, ℕ, List, [], None, Some, Ok, Err, refl, sym, ap, ◌∙◌}
use Rattle.std.specs.Prelude.{◌<◌, Result, nat_lt, option_map}
use Rattle.std.proofs.lemmas.Bool.{ltb-true}
use Rattle.std.specs.Option.{option_and_then, option_map_or}
use Rattle.std.specs.Result.{result_ok, result_unwrap_or}
use Rattle.pef_views.specs.Container.{Contained, container_of}
use Rattle.pef_views.specs.declared.fault.ViewFault.{ViewFault}
use Rattle.pef_format.specs.Places.{placed_from}
use Rattle.pef_format.specs.Symbols.{Import}
use Rattle.pef_format.specs.declared.place.Part.{Part}
use Rattle.pef_format.specs.declared.place.Part.TheVariants as part
use Rattle.pef_loader.specs.Import.{import_in}
use Rattle.pef_loader.specs.Loader.{Loaded, export_of, import_of, loaded_of, named_of}
use Rattle.pef_loader.specs.declared.fault.LoaderFault.{LoaderFault}
use Rattle.cfm_store.specs.Stores.{Pair, pair_of}
use Rattle.cfm_closure.specs.Faults.{reexport_loop}
use Rattle.cfm_closure.specs.Fragments.{Fragment, fragment_of, import_at, import_place, loader_at, part_place, place_at, with_container, with_loader}
use Rattle.cfm_closure.specs.Libraries.{bound_to, library_at}
use Rattle.cfm_closure.proofs.BoundLemmas.{met_if}
use Rattle.cfm_closure.specs.Targets.{exported, hop, hop_from, hop_of, hop_to, symbol_of}

loader-name : (name : List ℕ) (c : Contained) (l : Result Loaded LoaderFault) (f : Fragment) → with_loader name c l ≡ Ok f → f.name ≡ name
loader-name name c (Ok l) f is = cc
loader-name name c (Err fault) f is = absurd (cc)

container-name : (name : List ℕ) (c : Result Contained ViewFault) (f : Fragment) → with_container name c ≡ Ok f → f.name ≡ name
container-name name (Ok c) f is = loader-name name c (loaded_of c.header.instantiated_section_count c.loader) f is
container-name name (Err fault) f is = absurd (cc)

-- a fragment has the name of its pair
pub fragment-name : (pairs : List Pair) (p : ℕ) (f : Fragment) → fragment_of pairs p ≡ Ok f → f.name ≡ (pair_of pairs p).name
unfolding fragment_of
fragment-name pairs p f is = container-name (pair_of pairs p).name (container_of (pair_of pairs p).bytes) f is

pub loader_at-is : (pairs : List Pair) (p : ℕ) (f : Fragment) → fragment_of pairs p ≡ Ok f → loader_at pairs p ≡ Some f.loader
loader_at-is pairs p f is = rw is refl

-- the place of a field of a fragment that was read
pub place_at-is : (pairs : List Pair) (p : ℕ) (kind : Part) (row field : ℕ) (f : Fragment) → fragment_of pairs p ≡ Ok f → place_at pairs p kind row field ≡ part_place f kind row field
unfolding place_at
place_at-is pairs p kind row field f is = ap (λ r. option_map_or (λ (f : Fragment). part_place f kind row field) (result_ok r) (placed_from None kind row field)) is

-- an import whose name isn't exported by the fragment of its library
pub hop-missing : (pairs : List Pair) (p j q : ℕ) (f g : Fragment) (i : Import) → fragment_of pairs p ≡ Ok f → import_at pairs p j ≡ Some i → bound_to pairs p i.library ≡ Ok (Some q) → fragment_of pairs q ≡ Ok g → named_of g.loader i.name ≡ None → hop pairs p j ≡ hop_to f.name g.name (part_place f part.Import j 0) i q None
unfolding hop
hop-missing pairs p j q f g i read at bound read' none =
    let library : library_at pairs p i.library ≡ Some q = ap (λ r. result_unwrap_or r None) bound in
    let nothing : option_and_then (exported i.name) (loader_at pairs q) ≡ None =
    ap (option_and_then (exported i.name)) (loader_at-is pairs q g read')
    ∙ ap (option_and_then (λ e. option_map (λ x. (e, x)) (export_of g.loader e))) none in
    ap (hop_of pairs p j) at
    ∙ ap (hop_from pairs p j i) library
    ∙ ap (hop_to (pair_of pairs p).name (pair_of pairs q).name (import_place pairs p j) i q) nothing
    ∙ ap (λ name. hop_to name (pair_of pairs q).name (import_place pairs p j) i q None) (sym (fragment-name pairs p f read))
    ∙ ap (λ name. hop_to f.name name (import_place pairs p j) i q None) (sym (fragment-name pairs q g read'))
    ∙ ap (λ place. hop_to f.name g.name place i q None) (place_at-is pairs p part.Import j 0 f read)

-- an import of a fragment that was read
pub import_at-is : (pairs : List Pair) (p j : ℕ) (f : Fragment) (i : Import) → fragment_of pairs p ≡ Ok f → import_of f.loader j ≡ Some i → import_at pairs p j ≡ Some i
import_at-is pairs p j f i read there = ap (option_and_then (λ l. import_of l j)) (loader_at-is pairs p f read) ∙ there

-- only imports that exist are there
import_of-below : (l : Loaded) (j : ℕ) (i : Import) → import_of l j ≡ Some i → j < l.header.import_count
unfolding import_of import_in
import_of-below l j i is = ltb-true j l.header.import_count (met_if (nat_lt j l.header.import_count) _ i is)

pub import_at-below : (pairs : List Pair) (p j : ℕ) (f : Fragment) (i : Import) → fragment_of pairs p ≡ Ok f → import_at pairs p j ≡ Some i → j < f.loader.header.import_count
import_at-below pairs p j f i read is = import_of-below f.loader j i (ap (option_and_then (λ l. import_of l j)) (sym (loader_at-is pairs p f read)) ∙ is)

-- .. with its name, that of the fragment, and its place
pub endless-names : (pairs : List Pair) (p j : ℕ) (f : Fragment) (i : Import) → fragment_of pairs p ≡ Ok f → import_of f.loader j ≡ Some i → reexport_loop (pair_of pairs p).name (symbol_of pairs p j) (import_place pairs p j) ≡ reexport_loop f.name i.name (part_place f part.Import j 0)
endless-names pairs p j f i read there =
    ap (λ name. reexport_loop name (symbol_of pairs p j) (import_place pairs p j)) (sym (fragment-name pairs p f read))
    ∙ ap (λ o. reexport_loop f.name (option_map_or (λ (i : Import). i.name) o []) (import_place pairs p j)) (import_at-is pairs p j f i read there)
    ∙ ap (λ place. reexport_loop f.name i.name place) (place_at-is pairs p part.Import j 0 f read)
