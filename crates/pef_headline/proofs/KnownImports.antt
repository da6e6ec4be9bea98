-- Two scripts whose imports one fragment has describe the same imports, from the same libraries.
use Rattle.std.proofs.Common.{◌≡◌, ℕ, ◌<◌, Bool, true, false, List, Some, Ok, get_or, length, refl, sym, ap, subst, ◌∙◌}
use Rattle.std.specs.List.{slice_get}
use Rattle.std.proofs.lemmas.Option.{same_Some, slice_get_within, slice_get-get_or}
use Rattle.cfm_store.specs.Stores.{Pair}
use Rattle.cfm_closure.specs.Fragments.{Fragment, fragment_of}
use Rattle.pef_format.specs.Symbols.{Import, options_code, options_of}
use Rattle.pef_format.specs.declared.symbol.LibraryOptions.{LibraryOptions}
use Rattle.pef_loader.specs.Library.{Library}
use Rattle.pef_loader.specs.Loader.{import_of, library_of}
use Rattle.pef_script.specs.Script.{DescribedLibrary, DescribedScript}
use Rattle.pef_headline.specs.Imports.{HasImports}

-- a byte of options has one meaning
options-read : (before weak : Bool) → options_of (options_code (record { init_before = before; weak = weak })) ≡ record { init_before = before; weak = weak }
unfolding options_of
options-read true true = refl
options-read true false = refl
options-read false true = refl
options-read false false = refl

options-same : (a b : LibraryOptions) → options_code a ≡ options_code b → a ≡ b
options-same a b same = sym (options-read a.init_before a.weak) ∙ ap options_of same ∙ options-read b.init_before b.weak

-- libraries that are described as one entry says are one
library-same : (a b : DescribedLibrary) → a.name ≡ b.name → a.current ≡ b.current → a.old_imp ≡ b.old_imp → a.options ≡ b.options → a ≡ b
library-same a b name current old_imp options =
    ap (λ (n : List ℕ). record { name = n; current = a.current; old_imp = a.old_imp; options = a.options }) name
    ∙ ap (λ (n : ℕ). record { name = b.name; current = n; old_imp = a.old_imp; options = a.options }) current
    ∙ ap (λ (n : ℕ). record { name = b.name; current = b.current; old_imp = n; options = a.options }) old_imp
    ∙ ap (λ (o : LibraryOptions). record { name = b.name; current = b.current; old_imp = b.old_imp; options = o }) options

fragment-same : (pairs : List Pair) (p : ℕ) (f g : Fragment) → fragment_of pairs p ≡ Ok f → fragment_of pairs p ≡ Ok g → f ≡ g
fragment-same pairs p f g one other = cc

module _ (pairs : List Pair) (p : ℕ) (script other : DescribedScript) (mine : HasImports pairs p script) (theirs : HasImports pairs p other) where
  pub imports-known : (j : ℕ) (symbol : Import) → slice_get script.imports j ≡ Some symbol → (slice_get other.imports j ≡ Some symbol) × (slice_get other.libraries symbol.library ≡ slice_get script.libraries symbol.library)
  imports-known j symbol at =
      let same : mine.fragment ≡ theirs.fragment = fragment-same pairs p mine.fragment theirs.fragment mine.read theirs.read in
      let count : length script.imports ≡ length other.imports = sym mine.count ∙ ap (λ (f : Fragment). f.loader.header.import_count) same ∙ theirs.count in
      let inside : j < length other.imports = subst (λ (n : ℕ). j < n) count (slice_get_within script.imports j symbol at) in
      let found : Import = get_or other.imports j symbol in
      let there : slice_get other.imports j ≡ Some found = slice_get-get_or other.imports j symbol inside in
      let one = mine.each j symbol at in
      let two = theirs.each j found there in
      let symbols : symbol ≡ found = same_Some symbol found (sym one.is ∙ ap (λ (f : Fragment). import_of f.loader j) same ∙ two.is) in
      let entry : library_of mine.fragment.loader symbol.library ≡ Some two.library = ap (λ (f : Fragment). library_of f.loader symbol.library) same ∙ ap (λ (s : Import). library_of theirs.fragment.loader s.library) symbols ∙ two.there in
      let entries : one.library ≡ two.library = same_Some one.library two.library (sym one.there ∙ entry) in
      let described : one.described ≡ two.described =
      library-same one.described two.described
      (sym one.name ∙ ap (λ (l : Library). l.name) entries ∙ two.name)
      (sym one.current ∙ ap (λ (l : Library). l.fields.current) entries ∙ two.current)
      (sym one.old_imp ∙ ap (λ (l : Library). l.fields.old_imp) entries ∙ two.old_imp)
      (options-same one.described.options two.described.options (sym one.options ∙ ap (λ (l : Library). l.fields.options) entries ∙ two.options)) in
      (there ∙ ap Some (sym symbols), ap (λ (s : Import). slice_get other.libraries s.library) symbols ∙ two.from ∙ ap Some (sym described) ∙ sym one.from)
