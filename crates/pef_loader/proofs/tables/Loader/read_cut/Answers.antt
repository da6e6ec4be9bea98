-- The first refusal is that of the first test that fails. Libraries whose ranges follow one another are found to
-- be in order.
use Rattle.std.proofs.Common.{◌∙◌, refl, sym, arith, rules}
use Rattle.std.specs.Prelude.{length}
use Rattle.std.proofs.lemmas.Bool.{le-ltb, lt-ltb}
use Rattle.std.proofs.lemmas.Result.{err_from_is_err_and}
use Rattle.pef_loader.specs.Header.{tables_end}
use Rattle.pef_loader.specs.Loader.{loaded_of}
use Rattle.pef_loader.proofs.Loaders.{accepts}
use Rattle.pef_loader.proofs.tables.Loader.read_cut.Goals as goal

pub returns-then-len-end-clause-value : goal.returns-then-len-end-clause-value
unfolding loaded_of
returns-then-len-end-clause-value c =
    rw (← (sym c.in_ok-header.ensures.ok_part ∙ c.read_header.ensures), lt-ltb (length c.args.cut.bytes.now) (tables_end c.in_ok-header.header) (omega arith)) refl

pub returns-in_err-test_libraries-clause-value : goal.returns-in_err-test_libraries-clause-value
unfolding loaded_of
returns-in_err-test_libraries-clause-value c =
    let p = err_from_is_err_and c.from_residual-in_err-test_libraries.result c.from_residual-in_err-test_libraries.ensures.1 in
    rw (p.1, p.2, ← (sym c.in_ok-header.ensures.ok_part ∙ c.read_header.ensures), le-ltb (length c.args.cut.bytes.now) (tables_end c.in_ok-header.header) (omega arith), ← c.in_err-test_libraries.ensures) refl

pub returns-in_err-test_imports-clause-value : goal.returns-in_err-test_imports-clause-value
unfolding loaded_of
returns-in_err-test_imports-clause-value c =
    let p = err_from_is_err_and c.from_residual-in_err-test_imports.result c.from_residual-in_err-test_imports.ensures.1 in
    rw (p.1, p.2) (search rules)

pub returns-in_err-test_entries-clause-value : goal.returns-in_err-test_entries-clause-value
unfolding loaded_of
returns-in_err-test_entries-clause-value c =
    let p = err_from_is_err_and c.from_residual-in_err-test_entries.result c.from_residual-in_err-test_entries.ensures.1 in
    rw (p.1, p.2, ← (sym c.in_ok-header.ensures.ok_part ∙ c.read_header.ensures), le-ltb (length c.args.cut.bytes.now) (tables_end c.in_ok-header.header) (omega arith), ← c.in_ok-test_libraries.ensures, ← c.in_ok-test_imports.ensures, ← c.in_err-test_entries.ensures) refl

pub returns-in_err-test_relocs-clause-value : goal.returns-in_err-test_relocs-clause-value
unfolding loaded_of
returns-in_err-test_relocs-clause-value c =
    let p = err_from_is_err_and c.from_residual-in_err-test_relocs.result c.from_residual-in_err-test_relocs.ensures.1 in
    rw (p.1, p.2, ← (sym c.in_ok-header.ensures.ok_part ∙ c.read_header.ensures), le-ltb (length c.args.cut.bytes.now) (tables_end c.in_ok-header.header) (omega arith), ← c.in_ok-test_libraries.ensures, ← c.in_ok-test_imports.ensures, ← c.in_ok-test_entries.ensures, ← c.in_err-test_relocs.ensures) refl

pub returns-then-not-has_exports-clause-value : goal.returns-then-not-has_exports-clause-value
unfolding loaded_of
returns-then-not-has_exports-clause-value c =
    rw (← (sym c.in_ok-header.ensures.ok_part ∙ c.read_header.ensures), le-ltb (length c.args.cut.bytes.now) (tables_end c.in_ok-header.header) (omega arith), ← c.in_ok-test_libraries.ensures, ← c.in_ok-test_imports.ensures, ← c.in_ok-test_entries.ensures, ← c.in_ok-test_relocs.ensures, ← c.has_exports.ensures, c.if-not-has_exports.true) refl

pub returns-in_err-test_exports-clause-value : goal.returns-in_err-test_exports-clause-value
unfolding loaded_of
returns-in_err-test_exports-clause-value c =
    let p = err_from_is_err_and c.from_residual-in_err-test_exports.result c.from_residual-in_err-test_exports.ensures.1 in
    rw (p.1, p.2, ← (sym c.in_ok-header.ensures.ok_part ∙ c.read_header.ensures), le-ltb (length c.args.cut.bytes.now) (tables_end c.in_ok-header.header) (omega arith), ← c.in_ok-test_libraries.ensures, ← c.in_ok-test_imports.ensures, ← c.in_ok-test_entries.ensures, ← c.in_ok-test_relocs.ensures, ← c.has_exports.ensures, c.if-not-has_exports.false, ← c.in_err-test_exports.ensures) refl

pub returns-clause-order : goal.returns-clause-order
returns-clause-order c = c.are_in_order-in_order.ensures.1

pub invariant_of-result : goal.invariant_of-result
invariant_of-result c = record {
  ordered = c.are_in_order-in_order.ensures.0;
  tabled = c.exports-exports.ensures;
  named = c.ending.ensures;
  accepted = accepts (record { sections = c.args.sections; bytes = c.args.cut.bytes.now; header = c.in_ok-header.header }) (record {
    header = sym (sym c.in_ok-header.ensures.ok_part ∙ c.read_header.ensures);
    tables = rw (le-ltb (length c.args.cut.bytes.now) (tables_end c.in_ok-header.header) (omega arith)) refl;
    libraries = sym c.in_ok-test_libraries.ensures;
    imports = sym c.in_ok-test_imports.ensures;
    entries = sym c.in_ok-test_entries.ensures;
    relocs = sym c.in_ok-test_relocs.ensures;
    table = rw (← c.has_exports.ensures, c.if-not-has_exports.false) refl;
    exports = sym c.in_ok-test_exports.ensures;
  });
}
