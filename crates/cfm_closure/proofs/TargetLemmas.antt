-- A target is in a section of a fragment of the order.
use Rattle.std.proofs.Common.{◌≡◌, ℕ, zero, suc, Bool, true, false, cond, List, Option, None, Some, Ok, Err, refl, sym, ap, ◌∙◌, subst, Contains}
use Rattle.std.specs.Prelude.{Result, option_map, IsTrue}
use Rattle.std.specs.Option.{option_and_then, option_map_or}
use Rattle.std.proofs.lemmas.Bool.{and_parts, ltb-true}
use Rattle.pef_format.specs.declared.export.ExportValue.{ExportValue}
use Rattle.pef_format.specs.declared.export.ExportValue.TheVariants.{InSection, Reexport}
use Rattle.pef_format.specs.declared.export.ExportValue.TheVariants as value
use Rattle.pef_format.specs.Exports.{Export, is_export_section, value_of}
use Rattle.pef_format.specs.Symbols.{Import}
use Rattle.pef_format.specs.declared.place.Place.{Place}
use Rattle.pef_views.specs.Container.{Contained, container_of}
use Rattle.pef_views.specs.declared.fault.ViewFault.{ViewFault}
use Rattle.pef_loader.specs.Export.{has_section, is_there}
use Rattle.pef_loader.specs.Loader.{Loaded, export_of, loaded_of, named_of}
use Rattle.pef_loader.specs.declared.fault.LoaderFault.{LoaderFault}
use Rattle.pef_loader.proofs.Laws.{loaded_of-ok, named_there}
use Rattle.cfm_store.specs.Stores.{Pair, pair_of}
use Rattle.cfm_closure.specs.Faults.{BindRefusal, reexport_loop, symbol_missing}
use Rattle.cfm_closure.specs.Fragments.{Fragment, fragment_of, import_at, import_place, with_container, with_loader}
use Rattle.cfm_closure.specs.Libraries.{library_at}
use Rattle.cfm_closure.specs.Orders.{IsComplete}
use Rattle.cfm_closure.proofs.BoundLemmas.{library_at-is}
use Rattle.cfm_closure.proofs.OrderFacts.{bound-inside}
use Rattle.cfm_closure.specs.declared.targets.Target.{Target}
use Rattle.cfm_closure.specs.declared.targets.Target.TheVariants.{Absolute, At}
use Rattle.cfm_closure.specs.Promises.{IsSound, LiesInside}
use Rattle.cfm_closure.specs.Targets.{Hop, ends, exported, exports_in, follow, followed, hop, hop_by, hop_from, hop_of, hop_to, symbol_of, target_of, through}
use Rattle.cfm_closure.proofs.HopFacts.{loader_at-is}
use Rattle.cfm_closure.proofs.HopLemmas.{goes_on}

loader-sound : (name : List ℕ) (c : Contained) (l : Result Loaded LoaderFault) (f : Fragment) → loaded_of c.header.instantiated_section_count c.loader ≡ l → with_loader name c l ≡ Ok f → IsSound f
loader-sound name c (Err fault) f was is = absurd (cc)
loader-sound name c (Ok l) f was is =
    let ok = loaded_of-ok c.header.instantiated_section_count c.loader l was in
    let whole : Fragment = record { name = name; container = c; loader = l } in
    let same : whole ≡ f = cc in
    subst IsSound same (record { loader = ok.0; sections = sym ok.1 })

container-sound : (name : List ℕ) (c : Result Contained ViewFault) (f : Fragment) → with_container name c ≡ Ok f → IsSound f
container-sound name (Ok c) f is = loader-sound name c (loaded_of c.header.instantiated_section_count c.loader) f refl is
container-sound name (Err fault) f is = absurd (cc)

-- the loader section of a fragment that was read is one of its container
pub fragment-sound : (pairs : List Pair) (p : ℕ) (f : Fragment) → fragment_of pairs p ≡ Ok f → IsSound f
unfolding fragment_of
fragment-sound pairs p f is = container-sound (pair_of pairs p).name (container_of (pair_of pairs p).bytes) f is

module _ (pairs : List Pair) (order : List ℕ) (complete : IsComplete pairs order) where
  -- an export in a section of a fragment of the order
  in_section : (q : ℕ) (f : Fragment) (e : ℕ) (x : Export) (t : Option Target) → Contains order q → fragment_of pairs q ≡ Ok f → IsTrue (has_section f.loader.header f.loader.sections x.fields.value x.fields.section)
      → hop_by q e (value_of x.fields.section x.fields.value) ≡ ends t → LiesInside pairs order t
  in_section q f e x t there read has is =
      let parts = and_parts (is_export_section x.fields.section) (is_there f.loader.header f.loader.sections (value_of x.fields.section x.fields.value)) has in
      by (value_of x.fields.section x.fields.value) parts.1 is
    where
      by : (v : ExportValue) → IsTrue (is_there f.loader.header f.loader.sections v) → hop_by q e v ≡ ends t → LiesInside pairs order t
      by (InSection s offset) has is =
          let same : Some (At q s offset) ≡ t = cc in
          subst (LiesInside pairs order) same (record {
            member = there;
            place = (complete.members q there).place;
            loader = f.loader;
            read = loader_at-is pairs q f read;
            below = ltb-true s f.loader.sections has;
          })
      by (value.Absolute n) has is = let same : Some (Absolute n) ≡ t = cc in subst (LiesInside pairs order) same tt
      by (Reexport import) has is = absurd (cc)

  -- the export with a name, or none
  in_exported : (p q : ℕ) (place : Place) (f : Fragment) (i : Import) (t : Option Target) → Contains order q → fragment_of pairs q ≡ Ok f
      → hop_to (pair_of pairs p).name (pair_of pairs q).name place i q (exported i.name f.loader) ≡ Ok (ends t) → LiesInside pairs order t
  in_exported p q place f i t there read is = found (named_of f.loader i.name) refl is
    where
      refusal : BindRefusal
      refusal = symbol_missing (pair_of pairs p).name (pair_of pairs q).name i.name place

      weak : (b : Bool) → cond b (Ok (ends None)) (Err refusal) ≡ Ok (ends t) → LiesInside pairs order t
      weak true is = let same : None ≡ t = cc in subst (LiesInside pairs order) same tt
      weak false is = absurd (cc)

      found : (n : Option ℕ) → named_of f.loader i.name ≡ n
          → hop_to (pair_of pairs p).name (pair_of pairs q).name place i q (option_and_then (λ e. option_map (λ x. (e, x)) (export_of f.loader e)) n) ≡ Ok (ends t) → LiesInside pairs order t
      found None was is = weak i.fields.weak is
      found (Some e) was is =
          let named = named_there f.loader i.name e (fragment-sound pairs q f read).loader was in
          let hops : Option Export → Result Hop BindRefusal = λ o. hop_to (pair_of pairs p).name (pair_of pairs q).name place i q (option_map (λ x. (e, x)) o) in
          let at : ◌≡◌ {A = Result Hop BindRefusal} (Ok (hop_by q e (value_of named.0.fields.section named.0.fields.value))) (Ok (ends t)) = ap hops (sym named.1) ∙ is in
          in_section q f e named.0 t there read named.3 (cc)

  hop-inside : (p j : ℕ) (t : Option Target) → Contains order p → hop pairs p j ≡ Ok (ends t) → LiesInside pairs order t
  unfolding hop
  hop-inside p j t there is = by (import_at pairs p j) is
    where
      nothing : ◌≡◌ {A = Result Hop BindRefusal} (Ok (ends None)) (Ok (ends t)) → LiesInside pairs order t
      nothing is = let same : None ≡ t = cc in subst (LiesInside pairs order) same tt

      from : (i : Import) (o : Option ℕ) → library_at pairs p i.library ≡ o → hop_from pairs p j i o ≡ Ok (ends t) → LiesInside pairs order t
      from i None was is = nothing is
      from i (Some q) was is =
          let here : Contains order q = bound-inside pairs order p i.library (Some q) complete there (library_at-is pairs p i.library q was) in
          let m = complete.members q here in
          let hops : Option Loaded → Result Hop BindRefusal = λ o. hop_to (pair_of pairs p).name (pair_of pairs q).name (import_place pairs p j) i q (option_and_then (exported i.name) o) in
          in_exported p q (import_place pairs p j) m.fragment i t here m.read (ap hops (sym (loader_at-is pairs q m.fragment m.read)) ∙ is)

      by : (o : Option Import) → hop_of pairs p j o ≡ Ok (ends t) → LiesInside pairs order t
      by None is = nothing is
      by (Some i) is = from i (library_at pairs p i.library) refl is

  follow-inside : (n p j : ℕ) (t : Option Target) → Contains order p → follow n pairs p j ≡ Some (Ok t) → LiesInside pairs order t
  unfolding follow
  follow-inside zero p j t there is = by (hop pairs p j) refl is
    where
      by : (r : Result Hop BindRefusal) → hop pairs p j ≡ r → followed (λ q k. None) r ≡ Some (Ok t) → LiesInside pairs order t
      by (Ok (ends u)) was is = hop-inside p j t there (was ∙ (cc))
      by (Ok (through q e k)) was is = absurd (cc)
      by (Err r) was is = absurd (cc)
  follow-inside (suc n) p j t there is = by (hop pairs p j) refl is (λ q k. follow-inside n q k t)
    where
      by : (r : Result Hop BindRefusal) → hop pairs p j ≡ r → followed (follow n pairs) r ≡ Some (Ok t) → ((q k : ℕ) → Contains order q → follow n pairs q k ≡ Some (Ok t) → LiesInside pairs order t) → LiesInside pairs order t
      by (Ok (ends u)) was is deeper = hop-inside p j t there (was ∙ (cc))
      by (Ok (through q e k)) was is deeper =
          let g = goes_on pairs p j q e k was in
          deeper q k (bound-inside pairs order p g.symbol.library (Some q) complete there (library_at-is pairs p g.symbol.library q g.library)) is
      by (Err r) was is deeper = absurd (cc)

  -- the target of an import of the order
  pub target-inside : (p j : ℕ) (t : Option Target) → Contains order p → target_of pairs p j ≡ Ok t → LiesInside pairs order t
  unfolding target_of
  target-inside p j t there is = by (follow (exports_in pairs) pairs p j) refl is
    where
      by : (o : Option (Result (Option Target) BindRefusal)) → follow (exports_in pairs) pairs p j ≡ o
          → option_map_or (λ answer. answer) o (Err (reexport_loop (pair_of pairs p).name (symbol_of pairs p j) (import_place pairs p j))) ≡ Ok t → LiesInside pairs order t
      by None was is = absurd (cc)
      by (Some answer) was is = follow-inside (exports_in pairs) p j t there (was ∙ ap Some is)
