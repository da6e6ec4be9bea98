-- An import of another name is passed over.
use Rattle.std.proofs.Common.{◌≡◌, ◌<◌, true, false, None, Some, refl, sym, ap, ◌∙◌, arith}
use Rattle.pef_words.proofs.Laws.Refusals.{first_among-here, first_among-next}
use Rattle.pef_loader.specs.ImportNames.{import_named_at, is_import_named, named_import_of}
use Rattle.pef_loader.specs.Views.{loaded}
use Rattle.pef_loader.proofs.import_names.import_named.Goals as goal

pub returns-then-is_named-clause-value : goal.returns-then-is_named-clause-value
unfolding named_import_of
returns-then-is_named-clause-value c =
    let l = loaded c.args.loader.now in
    let under : c.loop-j.j < l.header.import_count = omega (arith, c.loop-j-test.true, c.imports-j-end.ensures.count) in
    let named : is_import_named l c.args.name.now c.loop-j.j ≡ true = ap (λ x. is_import_named (loaded x) c.args.name.now c.loop-j.j) (sym c.loop-j.invariant.same) ∙ sym c.is_named.ensures.named ∙ c.if-is_named.true in
    let here : import_named_at l c.args.name.now c.loop-j.j ≡ Some c.loop-j.j = rw named refl in
    sym (first_among-here (import_named_at l c.args.name.now) _ _ _ under here) ∙ c.loop-j.invariant.left

pub loop-j-preserved : goal.loop-j-preserved
loop-j-preserved c =
    let l = loaded c.args.loader.now in
    let under : c.loop-j.j < l.header.import_count = omega (arith, c.loop-j-test.true, c.imports-j-end.ensures.count) in
    let named : is_import_named l c.args.name.now c.loop-j.j ≡ false = ap (λ x. is_import_named (loaded x) c.args.name.now c.loop-j.j) (sym c.loop-j.invariant.same) ∙ sym c.is_named.ensures.named ∙ c.if-is_named.false in
    let other : import_named_at l c.args.name.now c.loop-j.j ≡ None = rw named refl in
    record {
      same = c.is_named.ensures.same ∙ c.loop-j.invariant.same;
      left = sym (first_among-next (import_named_at l c.args.name.now) _ _ under other) ∙ c.loop-j.invariant.left;
    }
