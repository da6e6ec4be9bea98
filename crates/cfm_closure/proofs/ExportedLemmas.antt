-- Imports that exports pass on.
use Rattle.std.proofs.Common.{◌≡◌, ℕ, List, Ok, ap, subst, arith, Contains}
use Rattle.std.specs.Prelude.{◌<◌, IsTrue}
use Rattle.std.proofs.lemmas.Bool.{ltb-true}
use Rattle.std.specs.Option.{option_map_or}
use Rattle.pef_format.specs.declared.export.ExportValue.{ExportValue}
use Rattle.pef_format.specs.declared.export.ExportValue.TheVariants.{InSection, Reexport}
use Rattle.pef_format.specs.declared.export.ExportValue.TheVariants as value
use Rattle.pef_loader.specs.Export.{is_there}
use Rattle.pef_loader.specs.Loader.{Loaded}
use Rattle.cfm_store.specs.Stores.{Pair}
use Rattle.cfm_closure.specs.Fragments.{Fragment, fragment_of, import_count}
use Rattle.cfm_closure.specs.Targets.{hop_by, through}
use Rattle.cfm_closure.specs.declared.hops.Hop.{Hop as CodeHop}
use Rattle.cfm_closure.specs.declared.hops.Hop.TheVariants as code
use Rattle.cfm_closure.specs.Kept.Hops.{IsHop, StaysInside}
use Rattle.cfm_closure.proofs.HopFacts.{loader_at-is}

-- the import that an export passes on is one of its fragment
pub stays-inside : (pairs : List Pair) (order : List ℕ) (q e : ℕ) (v : ExportValue) (h : CodeHop) (g : Fragment) → Contains order q → fragment_of pairs q ≡ Ok g → IsTrue (is_there g.loader.header g.loader.sections v) → IsHop h (hop_by q e v) → StaysInside pairs order h
stays-inside pairs order q e v (code.Ends found) g there read inside is = tt
stays-inside pairs order q e (InSection section offset) (code.Through q' k) g there read inside is = absurd (let no = is.1 in cc)
stays-inside pairs order q e (value.Absolute n) (code.Through q' k) g there read inside is = absurd (let no = is.1 in cc)
stays-inside pairs order q e (Reexport import) (code.Through q' k) g there read inside is =
    let same : through q e import ≡ through q' is.0 k = is.1 in
    let place : q ≡ q' = cc in
    let number : import ≡ k = cc in
    let count : import_count pairs q ≡ g.loader.header.import_count = ap (λ o. option_map_or (λ (l : Loaded). l.header.import_count) o 0) (loader_at-is pairs q g read) in
    let below : import < import_count pairs q = omega (arith, ltb-true import g.loader.header.import_count inside) in
    subst (λ q. Contains order q × (k < import_count pairs q)) place (there, subst (λ n. n < import_count pairs q) number below)
