-- Where a hop leads if it continues, and the effect of many hops.
use Rattle.std.proofs.Common.{◌≡◌, ℕ, Bool, true, false, cond, List, Option, None, Some, Ok, Err, refl, ap, ◌∙◌, subst}
use Rattle.std.specs.Prelude.{option_map}
use Rattle.std.specs.Option.{option_and_then}
use Rattle.pef_format.specs.declared.export.ExportValue.{ExportValue}
use Rattle.pef_format.specs.declared.export.ExportValue.TheVariants.{InSection, Reexport}
use Rattle.pef_format.specs.declared.export.ExportValue.TheVariants as value
use Rattle.pef_format.specs.Exports.{Export, value_of}
use Rattle.pef_format.specs.Symbols.{Import}
use Rattle.pef_format.specs.declared.place.Place.{Place}
use Rattle.pef_loader.specs.Loader.{Loaded, export_of, named_of}
use Rattle.cfm_store.specs.Stores.{Pair, pair_of}
use Rattle.cfm_closure.specs.Faults.{BindRefusal, symbol_missing}
use Rattle.cfm_closure.specs.Fragments.{import_at, import_place, loader_at}
use Rattle.cfm_closure.specs.Libraries.{library_at}
use Rattle.cfm_closure.specs.Targets.{ends, exported, hop, hop_by, hop_from, hop_of, hop_to, through}

-- a hop that continues: through an export of a library's fragment that passes on an import
pub record GoesOn (pairs : List Pair) (p j q e k : ℕ) : Type 0 where
  pub symbol : Import
  pub is : import_at pairs p j ≡ Some symbol
  pub library : library_at pairs p symbol.library ≡ Some q
  pub loader : Loaded
  pub read : loader_at pairs q ≡ Some loader
  pub named : named_of loader symbol.name ≡ Some e
  pub export : Export
  pub there : export_of loader e ≡ Some export
  pub value : value_of export.fields.section export.fields.value ≡ Reexport k

-- by the value of the export
through_by : (q' e' : ℕ) (v : ExportValue) (q e k : ℕ) → hop_by q' e' v ≡ through q e k → (q' ≡ q) × (e' ≡ e) × (v ≡ Reexport k)
through_by q' e' (InSection section offset) q e k is = absurd (cc)
through_by q' e' (value.Absolute n) q e k is = absurd (cc)
through_by q' e' (Reexport import) q e k is = let same : import ≡ k = cc in (cc, cc, ap (λ i. Reexport i) same)

through_weak : (weak : Bool) (r : BindRefusal) (q e k : ℕ) → cond weak (Ok (ends None)) (Err r) ≡ Ok (through q e k) → ⊥
through_weak true r q e k is = cc
through_weak false r q e k is = cc

-- by the export, if there is one
through_to : (f l : List ℕ) (place : Place) (i : Import) (q' : ℕ) (o : Option (ℕ × Export)) (q e k : ℕ) → hop_to f l place i q' o ≡ Ok (through q e k) → (x : ℕ × Export) × (o ≡ Some x) × (q' ≡ q) × (x.0 ≡ e) × (value_of x.1.fields.section x.1.fields.value ≡ Reexport k)
through_to f l place i q' None q e k is = absurd (through_weak i.fields.weak (symbol_missing f l i.name place) q e k is)
through_to f l place i q' (Some x) q e k is =
    let by = through_by q' x.0 (value_of x.1.fields.section x.1.fields.value) q e k (cc) in
    (x, refl, by.0, by.1, by.2)

-- an export that is found is the first with its name
exported_is : (name : List ℕ) (loader : Loaded) (n : Option ℕ) (x : ℕ × Export) → named_of loader name ≡ n → option_and_then (λ e. option_map (λ x. (e, x)) (export_of loader e)) n ≡ Some x → (n ≡ Some x.0) × (export_of loader x.0 ≡ Some x.1)
exported_is name loader None x named is = absurd (cc)
exported_is name loader (Some e) x named is = by (export_of loader e) refl is
  where
    by : (o : Option Export) → export_of loader e ≡ o → option_map (λ x. (e, x)) o ≡ Some x → (Some e ≡ Some x.0) × (export_of loader x.0 ≡ Some x.1)
    by None there is = absurd (cc)
    by (Some y) there is =
        let same : (e, y) ≡ x = cc in
        let P : ℕ × Export → Type 0 = λ x. (Some e ≡ Some x.0) × (export_of loader x.0 ≡ Some x.1) in
        subst P same (refl, there)

goes_from : (pairs : List Pair) (p j : ℕ) (i : Import) (o : Option ℕ) (q e k : ℕ) → import_at pairs p j ≡ Some i → library_at pairs p i.library ≡ o → hop_from pairs p j i o ≡ Ok (through q e k) → GoesOn pairs p j q e k
goes_from pairs p j i None q e k there library is = absurd (cc)
goes_from pairs p j i (Some q') q e k there library is = by (loader_at pairs q') refl is
  where
    by : (o : Option Loaded) → loader_at pairs q' ≡ o → hop_to (pair_of pairs p).name (pair_of pairs q').name (import_place pairs p j) i q' (option_and_then (exported i.name) o) ≡ Ok (through q e k) → GoesOn pairs p j q e k
    by None read is = absurd (let x = through_to (pair_of pairs p).name (pair_of pairs q').name (import_place pairs p j) i q' None q e k is in let none = x.1 in cc)
    by (Some loader) read is =
        let x = through_to (pair_of pairs p).name (pair_of pairs q').name (import_place pairs p j) i q' (exported i.name loader) q e k is in
        let found = exported_is i.name loader (named_of loader i.name) x.0 refl x.1 in
        record {
          symbol = i;
          is = there;
          library = library ∙ ap Some x.2;
          loader = loader;
          read = (let P : ℕ → Type 0 = λ q. loader_at pairs q ≡ Some loader in subst P x.2 read);
          named = found.0 ∙ ap Some x.3;
          export = x.0.1;
          there = (let P : ℕ → Type 0 = λ e. export_of loader e ≡ Some x.0.1 in subst P x.3 found.1);
          value = x.4;
        }

goes_of : (pairs : List Pair) (p j : ℕ) (o : Option Import) (q e k : ℕ) → import_at pairs p j ≡ o → hop_of pairs p j o ≡ Ok (through q e k) → GoesOn pairs p j q e k
goes_of pairs p j None q e k there is = absurd (cc)
goes_of pairs p j (Some i) q e k there is = goes_from pairs p j i (library_at pairs p i.library) q e k there refl is

pub goes_on : (pairs : List Pair) (p j q e k : ℕ) → hop pairs p j ≡ Ok (through q e k) → GoesOn pairs p j q e k
unfolding hop
goes_on pairs p j q e k is = goes_of pairs p j (import_at pairs p j) q e k refl is
