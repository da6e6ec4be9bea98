-- A fragment with linked bytes has the imports of its script, by their names.
use Rattle.std.proofs.Common.{◌≡◌, ℕ, false, List, [], Option, None, Some, Ok, get_or, length, option_map, refl, ap, ◌∙◌}
use Rattle.std.specs.List.{slice_get}
use Rattle.std.specs.Option.{option_and_then, option_map_or}
use Rattle.std.specs.Result.{result_unwrap_or}
use Rattle.std.proofs.lemmas.Option.{slice_get-get_or}
use Rattle.cfm_store.specs.Stores.{Pair, pair_of}
use Rattle.cfm_closure.specs.Fragments.{Fragment, fragment_of, import_at}
use Rattle.cfm_closure.specs.Libraries.{bound, bound_to, library_at}
use Rattle.cfm_closure.specs.Targets.{hop, hop_from, hop_of}
use Rattle.pef_format.specs.Symbols.{Import}
use Rattle.pef_loader.specs.Library.{Library}
use Rattle.pef_loader.specs.Loader.{Loaded, import_of, library_of}
use Rattle.pef_script.specs.Script.{DescribedLibrary, DescribedScript}
use Rattle.pef_script.specs.WellFormed.{ImportHolds}
use Rattle.pef_words.proofs.Laws.Lists.{all-get}
use Rattle.pef_words.specs.Results.{◌>>=◌}
use Rattle.pef_write.specs.Linked.{IsLinked, LinkedContainer, linked_library}
use Rattle.pef_headline.specs.Imports.{HasImports, IsImportOf}
use Rattle.pef_headline.proofs.NowLemmas.{linked_fragment, loader-is, read_as_linked}

-- the library entry of a fragment that is read means the fragment that is bound to it
library-led : (pairs : List Pair) (p l : ℕ) (f : Fragment) (library : Library) → fragment_of pairs p ≡ Ok f → library_of f.loader l ≡ Some library → library_at pairs p l ≡ result_unwrap_or (bound pairs f l library) None
unfolding bound_to
library-led pairs p l f library read there =
    ap (λ r. result_unwrap_or (r >>= (λ (g : Fragment). option_map_or (bound pairs g l) (library_of g.loader l) (Ok None))) None) read
    ∙ ap (λ o. result_unwrap_or (option_map_or (bound pairs f l) o (Ok None)) None) there

-- and its imports lead there
pub import-leads : (pairs : List Pair) (p j : ℕ) (symbol : Import) (place : Option ℕ) → import_at pairs p j ≡ Some symbol → library_at pairs p symbol.library ≡ place → hop pairs p j ≡ hop_from pairs p j symbol place
unfolding hop
import-leads pairs p j symbol place is at = ap (hop_of pairs p j) is ∙ ap (hop_from pairs p j symbol) at

module _ (script : DescribedScript) (k : LinkedContainer) (linked : IsLinked script k) (pairs : List Pair) (p : ℕ) (holds : (pair_of pairs p).bytes ≡ k.bytes) where
  abbrev fragment : Fragment
  fragment = linked_fragment script k linked pairs p holds

  import-described : (j : ℕ) (symbol : Import) → slice_get script.imports j ≡ Some symbol → IsImportOf pairs p script fragment j symbol
  import-described j symbol at =
      let none : DescribedLibrary = record { name = []; current = 0; old_imp = 0; options = record { init_before = false; weak = false } } in
      let read = read_as_linked script k linked pairs p holds in
      let described = get_or script.libraries symbol.library none in
      let library = linked_library script.imports symbol.library described in
      let inside : ImportHolds (length script.libraries) symbol = all-get (ImportHolds (length script.libraries)) script.imports j symbol linked.holds.imports.each at in
      let from : slice_get script.libraries symbol.library ≡ Some described = slice_get-get_or script.libraries symbol.library none inside.library in
      let is : import_of fragment.loader j ≡ Some symbol = read.of.tables.imports j ∙ at in
      let there : library_of fragment.loader symbol.library ≡ Some library = read.of.tables.libraries symbol.library ∙ ap (option_map (linked_library script.imports symbol.library)) from in
      record {
        is = is;
        described = described;
        from = from;
        library = library;
        there = there;
        name = refl;
        current = refl;
        old_imp = refl;
        options = refl;
        leads = import-leads pairs p j symbol (result_unwrap_or (bound pairs fragment symbol.library library) None)
            (ap (option_and_then (λ (l : Loaded). import_of l j)) (loader-is script k linked pairs p holds) ∙ is)
            (library-led pairs p symbol.library fragment library read.read there);
      }

  pub imports-described : HasImports pairs p script
  imports-described =
      let read = read_as_linked script k linked pairs p holds in
      record { fragment = fragment; read = read.read; count = read.of.tables.import_count; each = import-described }
