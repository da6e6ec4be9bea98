-- One more entry and one more name are written, and the imports of the library end where those of the
-- next begin.
use Rattle.std.proofs.Common.{◌≡◌, ◌∙◌, ◌-◌, ◌^◌, ◌++◌, length, refl, ap, ap₂, sym, arith}
use Rattle.std.proofs.lemmas.Option.{slice_get_within}
use Rattle.pef_script.specs.Script.{DescribedLibrary}
use Rattle.pef_script.specs.Views.{library_in}
use Rattle.pef_script.specs.Script.{library_names}
use Rattle.pef_write.specs.Fields.{spelled}
use Rattle.pef_write.specs.Linked.{library_with}
use Rattle.pef_write.specs.Loaders.{library_entry, zero_ended}
use Rattle.pef_write.proofs.Counts.{before-next, count_before, count_of, from_within, none_before}
use Rattle.pef_write.proofs.EntrySteps.{libraries-end, library-here, longer, names-end, names-here, within}
use Rattle.pef_write.proofs.Fields.{none_left, one_more}
use Rattle.pef_write.proofs.Listing.{none_past}
use Rattle.pef_write.proofs.entries.put_libraries.Goals as goal

pub libraries-init : goal.libraries-init
libraries-init c = record { first = sym (none_before c.args.script.now.imports); names = refl; entries = refl }

pub imports_end-end-requires-clause-from : goal.imports_end-end-requires-clause-from
imports_end-end-requires-clause-from c = from_within c.libraries.first c.libraries.k c.args.script.now.imports c.libraries.invariant.first

pub overflow_sub-end : goal.overflow_sub-end
overflow_sub-end c =
    omega (arith, c.imports_end-end.ensures, from_within c.libraries.first c.libraries.k c.args.script.now.imports c.libraries.invariant.first)

pub overflow_cast-at : goal.overflow_cast-at
overflow_cast-at c =
    let room = within c.libraries.strings.items _ c.args.strings.now.items (zero_ended (library_names c.args.script.now)) (2 ^ 32) c.libraries.invariant.names c.requires.strings in
    omega (arith, room)

pub overflow_add-k : goal.overflow_add-k
overflow_add-k c =
    omega (arith, slice_get_within c.args.script.now.libraries c.libraries.k (library_in c.in-Some.library) (sym c.in-Some.ensures), c.requires.holds.libraries.count)

pub libraries-smaller : goal.libraries-smaller
libraries-smaller c =
    omega (arith, slice_get_within c.args.script.now.libraries c.libraries.k (library_in c.in-Some.library) (sym c.in-Some.ensures))

pub libraries-preserved : goal.libraries-preserved
libraries-preserved c =
    let imports = c.args.script.now.imports in
    let libraries = c.args.script.now.libraries in
    let k = c.libraries.k in
    let l = library_in c.in-Some.library in
    let found = sym c.in-Some.ensures in
    let first : c.libraries.first ≡ count_before k imports = c.libraries.invariant.first in
    let count : c.imports_end-end.result - c.libraries.first ≡ count_of k imports = omega (arith, c.imports_end-end.ensures, first, before-next k imports) in
    let size = longer c.libraries.strings.items l.name c.put_entry.new.strings.items c.in_ok-put_entry.ensures.name in
    let at : c.len-at.result ≡ length c.libraries.strings.items = omega arith in
    let fields = c.library_entry-entry.ensures ∙ ap (λ n. library_entry n (library_with (c.imports_end-end.result - c.libraries.first) c.libraries.first l)) at ∙ ap₂ (λ n m. library_entry (length c.libraries.strings.items) (library_with n m l)) count first in
    let entry = c.in_ok-put_entry.ensures.entry ∙ ap (λ f. c.libraries.out.items ++ spelled f) fields in
    record {
      first = c.imports_end-end.ensures;
      names = one_more c.libraries.strings.items _ c.put_entry.new.strings.items _ _ _ c.in_ok-put_entry.ensures.name (names-here (λ (library : DescribedLibrary). library.name) libraries k l found) c.libraries.invariant.names;
      entries = rw size (one_more c.libraries.out.items _ c.put_entry.new.out.items _ _ _ entry (library-here imports (length c.libraries.strings.items) k libraries l found) c.libraries.invariant.entries);
    }

pub returns-clause-entries : goal.returns-clause-entries
returns-clause-entries c =
    let libraries = c.args.script.now.libraries in
    none_left c.libraries.out.items _ _ (libraries-end c.args.script.now.imports (length c.libraries.strings.items) c.libraries.k libraries (none_past libraries c.libraries.k (sym c.in_default.ensures))) c.libraries.invariant.entries

pub returns-clause-names : goal.returns-clause-names
returns-clause-names c =
    let libraries = c.args.script.now.libraries in
    none_left c.libraries.strings.items _ _ (names-end (λ (library : DescribedLibrary). library.name) libraries c.libraries.k (none_past libraries c.libraries.k (sym c.in_default.ensures))) c.libraries.invariant.names
