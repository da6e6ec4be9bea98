-- A place without a refusal is passed over, and the first one with a refusal ends the search.
use Rattle.std.proofs.Common.{◌≡◌, ◌∙◌, ◌-◌, ◌<◌, refl, sym, arith}
use Rattle.std.proofs.lemmas.Result.{err_from_is_err_and}
use Rattle.pef_words.proofs.Laws.Refusals.{first_among-here, first_among-next}
use Rattle.pef_loader.specs.Import.{import_refusal}
use Rattle.pef_loader.proofs.tables.test_imports_by_blocks.Goals as goal

pub loop-j-init : goal.loop-j-init
loop-j-init c =
    let all : c.args.tables.header.import_count - 0 ≡ c.args.tables.header.import_count = omega arith in
    record { left = rw all refl; owners = λ painted. absurd (cc) }

pub loop-j-preserved : goal.loop-j-preserved
loop-j-preserved c =
    let under : c.loop-j.j < c.args.tables.header.import_count = omega arith in
    record {
      left = sym (first_among-next (import_refusal c.args.tables.cut.bytes.now c.args.tables.header) _ _ under (sym c.in_ok-test_import.ensures)) ∙ c.loop-j.invariant.left;
      owners = c.owner-owner.ensures.owners;
    }

pub returns-in_err-test_import : goal.returns-in_err-test_import
returns-in_err-test_import c =
    let under : c.loop-j.j < c.args.tables.header.import_count = omega arith in
    let p = err_from_is_err_and c.from_residual.result c.from_residual.ensures.1 in
    rw (p.1, p.2) (sym (first_among-here (import_refusal c.args.tables.cut.bytes.now c.args.tables.header) _ _ _ under (sym c.in_err-test_import.ensures)) ∙ c.loop-j.invariant.left)
