-- What the first export with a name means.
use Rattle.std.proofs.Common.{◌≡◌, ℕ, Bool, true, false, ◌&&◌, List, Option, None, Some, refl, sym, ap, ◌∙◌, subst, rules}
use Rattle.std.specs.Option.{option_and_then}
use Rattle.std.specs.Prelude.{IsTrue, option_map}
use Rattle.std.proofs.lemmas.Option.{same_Some}
use Rattle.pef_format.specs.Exports.{Export, is_export_section, value_of}
use Rattle.pef_format.specs.declared.export.ExportValue.{ExportValue}
use Rattle.pef_loader.specs.Export.{has_section, is_there}
use Rattle.pef_loader.specs.Loader.{IsLoader, Loaded, export_of, named_of}
use Rattle.pef_loader.proofs.Laws.{named_there}
use Rattle.cfm_store.specs.Exported.{Means, MeansFirst}
use Rattle.cfm_store.specs.Kept.NameIndexes.{value_at}

and-second : (a b : Bool) → IsTrue (a && b) → IsTrue b
and-second true b is = is
and-second false b is = absurd (search rules)

-- a row that is found by a name has the value that the first export with the name means
pub means-row : (l : Loaded) (name : List ℕ) (i : ℕ) (x : Export) (value : ExportValue) → IsLoader l → named_of l name ≡ Some i → export_of l i ≡ Some x → value ≡ value_of x.fields.section x.fields.value → Means l name value
means-row l name i x value ok named row is =
    let known = named_there l name i ok named in
    let same : known.0 ≡ x = same_Some known.0 x (sym known.1 ∙ row) in
    let P : Export → Type 0 = λ y. IsTrue (has_section l.header l.sections y.fields.value y.fields.section) in
    record {
      index = i;
      named = named;
      export = x;
      row = row;
      is = is;
      inside = subst (λ (v : ExportValue). IsTrue (is_there l.header l.sections v)) (sym is) (and-second (is_export_section x.fields.section) (is_there l.header l.sections (value_of x.fields.section x.fields.value)) (subst P same known.3));
    }

-- .. so it is what is found if it is that of the row
pub means-found : (l : Loaded) (name : List ℕ) (found : Option ExportValue) → IsLoader l → found ≡ option_and_then (value_at l) (named_of l name) → MeansFirst l name found
means-found l name found ok is = by (named_of l name) refl is
  where
    by : (o : Option ℕ) → named_of l name ≡ o → found ≡ option_and_then (value_at l) o → MeansFirst l name found
    by None named is = subst (MeansFirst l name) (sym is) named
    by (Some i) named is =
        let known = named_there l name i ok named in
        let value : ExportValue = value_of known.0.fields.section known.0.fields.value in
        let here : found ≡ Some value = is ∙ ap (option_map (λ (e : Export). value_of e.fields.section e.fields.value)) known.1 in
        subst (MeansFirst l name) (sym here) (means-row l name i known.0 value ok named known.1 refl)
