use Rattle.std.proofs.Common.{◌≡◌, ◌+◌, ◌&&◌, Bool, drop, get_or, sym, ap, ◌∙◌}
use Rattle.std.proofs.Math.Bool.{and_assoc}
use Rattle.std.proofs.lemmas.List.{at_drop_more, drop_all}
use Rattle.pef_ports.specs.Kept.Plain.{are_plain}
use Rattle.pef_ports.specs.Names.{is_plain_byte}
use Rattle.pef_ports.proofs.NameLemmas.{and-true}
use Rattle.pef_ports.proofs.name.are_plain.Goals as goal

pub loop-b-preserved : goal.loop-b-preserved
loop-b-preserved c =
    let at = c.loop-b in
    let name = c.args.bytes.now in
    let here = is_plain_byte (get_or name at.b-index 0) in
    let rest = are_plain (drop (at.b-index + 1) name) in
    let next : are_plain (drop at.b-index name) ≡ (here && rest) = at_drop_more are_plain name at.b-index 0 c.loop-b-test.true in
    rw (c.is_plain-plain.ensures) (and_assoc at.plain here rest ∙ ap (λ (x : Bool). at.plain && x) (sym next) ∙ at.invariant)

pub returns : goal.returns
returns c =
    let none = ap are_plain (drop_all c.loop-b.b-index c.args.bytes.now c.loop-b-test.false) in
    sym (and-true c.loop-b.plain) ∙ ap (λ (x : Bool). c.loop-b.plain && x) (sym none) ∙ c.loop-b.invariant
