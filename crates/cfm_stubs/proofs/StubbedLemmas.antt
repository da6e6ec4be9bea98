-- The errors of a store with stubs, and what imports from stubs mean.
use Rattle.std.proofs.Common.{◌≡◌, ◌∙◌, ℕ, suc, zero, ◌<◌, Bool, true, false, cond, List, length, Option, None, Some, Ok, Err, inl, inr, refl, sym, ap, subst}
use Rattle.std.specs.Prelude.{Result, option_map}
use Rattle.std.specs.Option.{option_and_then, option_map_or}
use Rattle.std.specs.Result.{result_ok, result_unwrap_or}
use Rattle.pef_format.specs.Exports.{Export, value_of}
use Rattle.pef_format.specs.Symbols.{Import, options_of}
use Rattle.pef_format.specs.declared.export.ExportValue.{ExportValue}
use Rattle.pef_format.specs.declared.export.ExportValue.TheVariants.{Absolute}
use Rattle.pef_format.specs.declared.place.Part.TheVariants as part
use Rattle.pef_loader.specs.Library.{Library}
use Rattle.pef_loader.specs.Loader.{import_of, library_of}
use Rattle.pef_words.specs.Results.{◌>>=◌}
use Rattle.cfm_store.specs.Stores.{Pair, pair_of, place_of}
use Rattle.cfm_store.proofs.Laws.{place_of-below, place_of-first}
use Rattle.cfm_closure.specs.Closures.{closed_of}
use Rattle.cfm_closure.specs.declared.versions.Fit.{Fit}
use Rattle.cfm_closure.specs.declared.versions.Fit.TheVariants.{Fits, TooOld, TooNew}
use Rattle.cfm_closure.specs.Faults.{BindRefusal, implementation_too_new, implementation_too_old, library_missing, reexport_loop, symbol_missing}
use Rattle.cfm_closure.specs.Fragments.{Fragment, fragment_of, import_at, import_place, loader_at, part_place}
use Rattle.cfm_closure.specs.Libraries.{absent_or, bound, bound_at, bound_by, bound_to, definition_of, fit_with, implementation_of, library_at}
use Rattle.cfm_closure.specs.Targets.{Hop, ends, exported, exports_in, follow, followed, hop, hop_by, hop_from, hop_of, hop_to, symbol_of, target_of}
use Rattle.cfm_closure.specs.declared.targets.Target.TheVariants as target
use Rattle.cfm_stubs.specs.Stubbed.{IsOther, IsStubbed, MayEnd, Names}
use Rattle.cfm_stubs.proofs.EntryLemmas.{bound-names, library_at-bound}
use Rattle.cfm_stubs.proofs.OriginLemmas.{Ends, Origins, closed-ends}

-- a fragment is read in one way
pub same_fragment : (x y : Fragment) (r : Result Fragment BindRefusal) → r ≡ Ok x → r ≡ Ok y → x ≡ y
same_fragment x y r first second = cc

module _ (pairs : List Pair) (stub : ℕ → Bool) (number : ℕ → List ℕ → ℕ) (stubbed : IsStubbed pairs stub number) where
  -- a library is a stub, or it isn't one
  other_if : (name : List ℕ) (q : ℕ) → place_of pairs name ≡ Some q → (stub q ≡ true → ⊥) → IsOther pairs stub name
  other_if name q there not_stub = by (stub q) refl
    where
      by : (b : Bool) → stub q ≡ b → IsOther pairs stub name
      by true is = absurd (not_stub is)
      by false is = record { place = q; there = there; other = is }

  none_unread : (p : ℕ) (r : BindRefusal) → p < length pairs → fragment_of pairs p ≡ Err r → ⊥
  none_unread p r inside is =
      let f = stubbed.read p inside in
      let both : Ok f.0 ≡ Err r = sym f.1 ∙ is in
      cc

  -- the versions of a stub fit
  stub_fits : (p k q : ℕ) (n : Names pairs p k q) (g : Fragment) → fragment_of pairs q ≡ Ok g → stub q ≡ true → fit_with n.library g ≡ Fits
  stub_fits p k q n g read is =
      let own = stubbed.stubs q is in
      ap (fit_with n.library) (same_fragment g own.fragment (fragment_of pairs q) read own.read) ∙ own.fits p k n

  -- an entry that is refused is one of a library that isn't a stub
  by-ends : (fit : Fit) (f : Fragment) (k : ℕ) (l : Library) (g : Fragment) (q : ℕ) (r : BindRefusal) → (fit ≡ Fits → ⊥) → IsOther pairs stub l.name → bound_by fit f k l g q ≡ Err r → MayEnd pairs stub r
  by-ends Fits f k l g q r unlike other is = absurd (unlike refl)
  by-ends TooOld f k l g q r unlike other is = weak (options_of l.fields.options).weak (implementation_too_old f.name l.name (part_place f part.Library k 4) (definition_of l) (implementation_of g)) other is
    where
      weak : (b : Bool) (e : BindRefusal) → MayEnd pairs stub e → absent_or b e ≡ Err r → MayEnd pairs stub r
      weak true e it is = absurd (cc)
      weak false e it is = let same : e ≡ r = cc in subst (MayEnd pairs stub) same it
  by-ends TooNew f k l g q r unlike other is = weak (options_of l.fields.options).weak (implementation_too_new f.name l.name (part_place f part.Library k 4) (definition_of l) (implementation_of g)) other is
    where
      weak : (b : Bool) (e : BindRefusal) → MayEnd pairs stub e → absent_or b e ≡ Err r → MayEnd pairs stub r
      weak true e it is = absurd (cc)
      weak false e it is = let same : e ≡ r = cc in subst (MayEnd pairs stub) same it

  fit-ends : (fit : Fit) (p k q : ℕ) (n : Names pairs p k q) (g : Fragment) (r : BindRefusal) → fragment_of pairs q ≡ Ok g → fit_with n.library g ≡ fit → bound_by fit n.fragment k n.library g q ≡ Err r → MayEnd pairs stub r
  fit-ends Fits p k q n g r read fit is = absurd (cc)
  fit-ends TooOld p k q n g r read fit is =
      by-ends TooOld n.fragment k n.library g q r (λ same. absurd (cc)) (other_if n.library.name q n.place (λ here. (let clash = sym fit ∙ stub_fits p k q n g read here in absurd (cc)))) is
  fit-ends TooNew p k q n g r read fit is =
      by-ends TooNew n.fragment k n.library g q r (λ same. absurd (cc)) (other_if n.library.name q n.place (λ here. (let clash = sym fit ∙ stub_fits p k q n g read here in absurd (cc)))) is

  entry-ends : (p k : ℕ) (r : BindRefusal) → p < length pairs → bound_to pairs p k ≡ Err r → MayEnd pairs stub r
  unfolding bound_to bound
  entry-ends p k r inside is = by (fragment_of pairs p) refl is
    where
      named : (f : Fragment) (x : Library) (q : ℕ) → fragment_of pairs p ≡ Ok f → library_of f.loader k ≡ Some x → place_of pairs x.name ≡ Some q → (g : Result Fragment BindRefusal) → fragment_of pairs q ≡ g
          → (g >>= (λ g. bound_by (fit_with x g) f k x g q)) ≡ Err r → MayEnd pairs stub r
      named f x q read entry place (Ok g) found is =
          fit-ends (fit_with x g) p k q (record { fragment = f; read = read; library = x; entry = entry; place = place }) g r found refl is
      named f x q read entry place (Err e) found is = absurd (none_unread q e (place_of-below pairs x.name q place) found)

      placed : (f : Fragment) (x : Library) → fragment_of pairs p ≡ Ok f → library_of f.loader k ≡ Some x → (o : Option ℕ) → place_of pairs x.name ≡ o → bound_at pairs f k x o ≡ Err r → MayEnd pairs stub r
      placed f x read entry None place is =
          elim (stubbed.found p k f x read entry) [
            | inl there ↦ (let clash = sym place ∙ there.1 in absurd (cc))
            | inr weak ↦ (let clash = sym is ∙ ap (λ b. absent_or b (library_missing f.name x.name (part_place f part.Library k 0))) weak in absurd (cc))
          ]
      placed f x read entry (Some q) place is = named f x q read entry place (fragment_of pairs q) refl is

      at : (f : Fragment) → fragment_of pairs p ≡ Ok f → (o : Option Library) → library_of f.loader k ≡ o → option_map_or (bound pairs f k) o (Ok None) ≡ Err r → MayEnd pairs stub r
      at f read None entry is = absurd (cc)
      at f read (Some x) entry is = placed f x read entry (place_of pairs x.name) refl is

      by : (f : Result Fragment BindRefusal) → fragment_of pairs p ≡ f → (f >>= (λ f. option_map_or (bound pairs f k) (library_of f.loader k) (Ok None))) ≡ Err r → MayEnd pairs stub r
      by (Ok f) read is = at f read (library_of f.loader k) refl is
      by (Err e) read is = absurd (none_unread p e inside read)

  -- what is found of a symbol of a stub
  stub_exports : (p j q : ℕ) (f : Fragment) (i : Import) → fragment_of pairs p ≡ Ok f → import_of f.loader j ≡ Some i → Names pairs p i.library q → stub q ≡ true
      → (x : ℕ × Export) × (option_and_then (exported i.name) (loader_at pairs q) ≡ Some x) × (value_of x.1.fields.section x.1.fields.value ≡ Absolute (number q i.name))
  stub_exports p j q f i read there names is =
      let own = stubbed.stubs q is in
      let it = own.exports p j f i read there names in
      ((it.index, it.export), ap (λ (g : Result Fragment BindRefusal). option_and_then (exported i.name) (option_map (λ f. f.loader) (result_ok g))) own.read ∙ it.found, it.value)

  -- an import that is refused is one of a library that isn't a stub
  hop-ends : (p j : ℕ) (r : BindRefusal) → hop pairs p j ≡ Err r → MayEnd pairs stub r
  unfolding hop
  hop-ends p j r is = by (fragment_of pairs p) refl (import_at pairs p j) refl is
    where
      weak : (b : Bool) (e : BindRefusal) → MayEnd pairs stub e → cond {A = Result Hop BindRefusal} b (Ok (ends None)) (Err e) ≡ Err r → MayEnd pairs stub r
      weak true e it is = absurd (cc)
      weak false e it is = let same : e ≡ r = cc in subst (MayEnd pairs stub) same it

      found : (f : Fragment) (i : Import) (q : ℕ) → fragment_of pairs p ≡ Ok f → import_of f.loader j ≡ Some i → Names pairs p i.library q → (o : Option (ℕ × Export)) → option_and_then (exported i.name) (loader_at pairs q) ≡ o
          → hop_to (pair_of pairs p).name (pair_of pairs q).name (import_place pairs p j) i q o ≡ Err r → MayEnd pairs stub r
      found f i q read there names None none is =
          weak i.fields.weak (symbol_missing (pair_of pairs p).name (pair_of pairs q).name i.name (import_place pairs p j))
          (other_if (pair_of pairs q).name q (place_of-first pairs names.library.name q names.place) (λ here. (let it = stub_exports p j q f i read there names here in let clash = sym none ∙ it.1 in absurd (cc)))) is
      found f i q read there names (Some x) some is = absurd (cc)

      from : (f : Fragment) (i : Import) → fragment_of pairs p ≡ Ok f → import_of f.loader j ≡ Some i → (o : Option ℕ) → library_at pairs p i.library ≡ o → hop_from pairs p j i o ≡ Err r → MayEnd pairs stub r
      from f i read there None bound is = absurd (cc)
      from f i read there (Some q) bound is =
          found f i q read there (bound-names pairs p i.library q (library_at-bound pairs p i.library q bound)) (option_and_then (exported i.name) (loader_at pairs q)) refl is

      by : (f : Result Fragment BindRefusal) → fragment_of pairs p ≡ f → (o : Option Import) → import_at pairs p j ≡ o → hop_of pairs p j o ≡ Err r → MayEnd pairs stub r
      by f read None there is = absurd (cc)
      by (Ok f) read (Some i) there is =
          from f i read (sym (ap (λ (g : Result Fragment BindRefusal). option_and_then (λ l. import_of l j) (option_map (λ f. f.loader) (result_ok g))) read) ∙ there) (library_at pairs p i.library) refl is
      by (Err e) read (Some i) there is =
          (let clash = sym (ap (λ (g : Result Fragment BindRefusal). option_and_then (λ l. import_of l j) (option_map (λ f. f.loader) (result_ok g))) read) ∙ there in absurd (cc))

  origins : Origins pairs (MayEnd pairs stub)
  origins = record {
    bytes = λ p r inside is. absurd (none_unread p r inside is);
    entry = entry-ends;
    hops = hop-ends;
    loop = λ f s place. tt;
    init = λ f place. tt;
  }

  -- a closure ends in no other error
  pub closed-may_end : (root : ℕ) (r : BindRefusal) → root < length pairs → closed_of pairs root ≡ Err r → MayEnd pairs stub r
  closed-may_end root r inside is = subst (Ends pairs (MayEnd pairs stub) origins) is (closed-ends pairs (MayEnd pairs stub) origins root inside)

  -- an entry that names a stub means it
  names-bound : (p k q : ℕ) (n : Names pairs p k q) → stub q ≡ true → bound_to pairs p k ≡ Ok (Some q)
  unfolding bound_to bound
  names-bound p k q n is =
      let own = stubbed.stubs q is in
      ap (λ (f : Result Fragment BindRefusal). f >>= (λ f. option_map_or (bound pairs f k) (library_of f.loader k) (Ok None))) n.read
      ∙ ap (λ (o : Option Library). option_map_or (bound pairs n.fragment k) o (Ok None)) n.entry
      ∙ ap (bound_at pairs n.fragment k n.library) n.place
      ∙ ap (λ (g : Result Fragment BindRefusal). g >>= (λ g. bound_by (fit_with n.library g) n.fragment k n.library g q)) own.read
      ∙ ap (λ fit. bound_by fit n.fragment k n.library own.fragment q) (own.fits p k n)

  -- an import from a stub leads to its number
  hop-number : (p j q : ℕ) (f : Fragment) (i : Import) → fragment_of pairs p ≡ Ok f → import_of f.loader j ≡ Some i → Names pairs p i.library q → stub q ≡ true → hop pairs p j ≡ Ok (ends (Some (target.Absolute (number q i.name))))
  unfolding hop
  hop-number p j q f i read there names is =
      let x = stub_exports p j q f i read there names is in
      let own : import_at pairs p j ≡ Some i = ap (λ (g : Result Fragment BindRefusal). option_and_then (λ l. import_of l j) (option_map (λ f. f.loader) (result_ok g))) read ∙ there in
      let library : library_at pairs p i.library ≡ Some q = ap (λ (r : Result (Option ℕ) BindRefusal). result_unwrap_or r None) (names-bound p i.library q names is) in
      let end : ExportValue → Result Hop BindRefusal = λ v. Ok (hop_by q x.0.0 v) in
      ap (hop_of pairs p j) own
      ∙ ap (hop_from pairs p j i) library
      ∙ ap (hop_to (pair_of pairs p).name (pair_of pairs q).name (import_place pairs p j) i q) x.1
      ∙ ap end x.2

  module _ (p j q : ℕ) (f : Fragment) (i : Import) (read : fragment_of pairs p ≡ Ok f) (there : import_of f.loader j ≡ Some i) (names : Names pairs p i.library q) (is : stub q ≡ true) where
    follow-number : (n : ℕ) → follow n pairs p j ≡ Some (Ok (Some (target.Absolute (number q i.name))))
    unfolding follow
    follow-number zero = ap (followed (λ q k. None)) (hop-number p j q f i read there names is)
    follow-number (suc n) = ap (followed (follow n pairs)) (hop-number p j q f i read there names is)

  -- .. and has it as its target
  pub target-number : (p j q : ℕ) (f : Fragment) (i : Import) → fragment_of pairs p ≡ Ok f → import_of f.loader j ≡ Some i → Names pairs p i.library q → stub q ≡ true → target_of pairs p j ≡ Ok (Some (target.Absolute (number q i.name)))
  unfolding target_of
  target-number p j q f i read there names is =
      ap (λ answer. option_map_or (λ answer. answer) answer (Err (reexport_loop (pair_of pairs p).name (symbol_of pairs p j) (import_place pairs p j)))) (follow-number p j q f i read there names is (exports_in pairs))
