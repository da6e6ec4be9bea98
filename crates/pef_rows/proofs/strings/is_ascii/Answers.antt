use Rattle.std.proofs.Common.{◌≡◌, ◌+◌, ◌&&◌, Bool, drop, get_or, nat_lt, sym, ap, ◌∙◌}
use Rattle.std.proofs.Math.Bool.{and_assoc}
use Rattle.std.proofs.lemmas.List.{at_drop_more, drop_all}
use Rattle.pef_rows.specs.Strings.{is_ascii}
use Rattle.pef_rows.proofs.StringLemmas.{and-true}
use Rattle.pef_rows.proofs.strings.is_ascii.Goals as goal

pub loop-b-preserved : goal.loop-b-preserved
loop-b-preserved c =
    let at = c.loop-b in
    let name = c.args.name.now in
    let here = nat_lt (get_or name at.b-index 0) 128 in
    let rest = is_ascii (drop (at.b-index + 1) name) in
    let next : is_ascii (drop at.b-index name) ≡ (here && rest) = at_drop_more is_ascii name at.b-index 0 c.loop-b-test.true in
    and_assoc at.ascii here rest ∙ ap (λ (x : Bool). at.ascii && x) (sym next) ∙ at.invariant

pub returns : goal.returns
returns c =
    let none = ap is_ascii (drop_all c.loop-b.b-index c.args.name.now c.loop-b-test.false) in
    sym (and-true c.loop-b.ascii) ∙ ap (λ (x : Bool). c.loop-b.ascii && x) (sym none) ∙ c.loop-b.invariant
