-- One more entry and one more name are written, and at the end none is left.
use Rattle.std.proofs.Common.{◌≡◌, ◌∙◌, ◌^◌, ◌++◌, length, ap, sym, arith}
use Rattle.std.proofs.lemmas.Option.{slice_get_within}
use Rattle.pef_format.specs.Symbols.{Import, import_seen}
use Rattle.pef_format.proofs.Laws.{class-small}
use Rattle.pef_script.specs.Script.{import_names}
use Rattle.pef_script.specs.WellFormed.{ImportHolds}
use Rattle.pef_words.proofs.Laws.Lists.{all-get}
use Rattle.pef_write.specs.Fields.{spelled}
use Rattle.pef_write.specs.Loaders.{import_entry, zero_ended}
use Rattle.pef_write.proofs.EntrySteps.{import-here, imports-end, longer, names-end, names-here, within}
use Rattle.pef_write.proofs.Fields.{none_left, one_more}
use Rattle.pef_write.proofs.Listing.{none_past}
use Rattle.pef_write.proofs.entries.put_imports.Goals as goal

-- names that are left have room
pub import_entry-entry-requires-clause-at : goal.import_entry-entry-requires-clause-at
import_entry-entry-requires-clause-at c =
    let room = within c.imports.strings.items _ c.args.strings.now.items (zero_ended (import_names c.args.script.now)) (2 ^ 24) c.imports.invariant.names c.requires.strings in
    omega (arith, room)

pub overflow_cast-len : goal.overflow_cast-len
overflow_cast-len c =
    let room = within c.imports.strings.items _ c.args.strings.now.items (zero_ended (import_names c.args.script.now)) (2 ^ 24) c.imports.invariant.names c.requires.strings in
    omega (arith, room)

pub import_entry-entry-requires-clause-class : goal.import_entry-entry-requires-clause-class
import_entry-entry-requires-clause-class c =
    class-small (import_seen c.in-Some.import).fields.class (all-get (ImportHolds (length c.args.script.now.libraries)) c.args.script.now.imports c.imports.j (import_seen c.in-Some.import) c.requires.holds.imports.each (sym c.in-Some.ensures)).class

pub overflow_add-j : goal.overflow_add-j
overflow_add-j c =
    omega (arith, slice_get_within c.args.script.now.imports c.imports.j (import_seen c.in-Some.import) (sym c.in-Some.ensures), c.requires.holds.imports.count)

pub imports-smaller : goal.imports-smaller
imports-smaller c =
    omega (arith, slice_get_within c.args.script.now.imports c.imports.j (import_seen c.in-Some.import) (sym c.in-Some.ensures))

pub imports-preserved : goal.imports-preserved
imports-preserved c =
    let imports = c.args.script.now.imports in
    let i = import_seen c.in-Some.import in
    let found = sym c.in-Some.ensures in
    let at : c.len.result ≡ length c.imports.strings.items = omega arith in
    let size = longer c.imports.strings.items i.name c.put_entry.new.strings.items c.in_ok-put_entry.ensures.name in
    let entry = c.in_ok-put_entry.ensures.entry ∙ ap (λ f. c.imports.out.items ++ spelled f) (c.import_entry-entry.ensures ∙ ap (λ n. import_entry n i) at) in
    record {
      names = one_more c.imports.strings.items _ c.put_entry.new.strings.items _ _ _ c.in_ok-put_entry.ensures.name (names-here (λ (symbol : Import). symbol.name) imports c.imports.j i found) c.imports.invariant.names;
      entries = rw size (one_more c.imports.out.items _ c.put_entry.new.out.items _ _ _ entry (import-here (length c.imports.strings.items) c.imports.j imports i found) c.imports.invariant.entries);
    }

pub returns-clause-entries : goal.returns-clause-entries
returns-clause-entries c =
    let imports = c.args.script.now.imports in
    none_left c.imports.out.items _ _ (imports-end (length c.imports.strings.items) c.imports.j imports (none_past imports c.imports.j (sym c.in_default.ensures))) c.imports.invariant.entries

pub returns-clause-names : goal.returns-clause-names
returns-clause-names c =
    let imports = c.args.script.now.imports in
    none_left c.imports.strings.items _ _ (names-end (λ (symbol : Import). symbol.name) imports c.imports.j (none_past imports c.imports.j (sym c.in_default.ensures))) c.imports.invariant.names
