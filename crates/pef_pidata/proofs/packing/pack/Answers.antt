use Rattle.std.proofs.Common.{◌++◌, length, sym, ap, ◌∙◌, arith}
use Rattle.std.proofs.lemmas.Bool.Decides.{Decides-eqb}
use Rattle.std.proofs.lemmas.List.{append-nil}
use Rattle.pef_pidata.proofs.Parts.{packed_none, packed_on}
use Rattle.pef_pidata.proofs.packing.pack.Goals as goal

pub loop-rest-preserved : goal.loop-rest-preserved
loop-rest-preserved c = record {
  within = omega (arith, c.first_piece.ensures.shorter);
  left = packed_on c.loop-rest.packed.items c.append.new.packed.items c.loop-rest.rest.now c.first_piece.result.1.now _ _ c.first_piece.ensures.parts c.in_ok-append.ensures c.loop-rest.invariant.left;
}

pub returns-clause-packed : goal.returns-clause-packed
returns-clause-packed c =
    let none = (Decides-eqb (length c.loop-rest.rest.now) 0).0 (sym c.is_empty.ensures ∙ c.loop-rest-test.false) in
    sym (append-nil c.loop-rest.packed.items) ∙ (ap (λ more. c.loop-rest.packed.items ++ more) (sym (packed_none c.loop-rest.rest.now none)) ∙ c.loop-rest.invariant.left)
