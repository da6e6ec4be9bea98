-- An array at the front, and those after it.
use Rattle.std.proofs.Common.{◌/◌, ◌*◌, ◌&&◌, Bool, length, take, ap, sym, ◌∙◌}
use Rattle.std.proofs.Math.Bool.{and_assoc}
use Rattle.pef_ports.specs.Kept.Plain.{are_plain}
use Rattle.pef_ports.proofs.NameLemmas.{plain-more-arrays}
use Rattle.pef_ports.proofs.name.is_plain_front.Goals as goal

pub loop-chunk-preserved : goal.loop-chunk-preserved
loop-chunk-preserved c =
    let rest = c.loop-chunk.rest.now in
    let chunk = c.in-Some.chunk.now in
    let after = c.in-Some.after.now in
    let cases = c.in-Some.ensures.cases in
    let next = plain-more-arrays rest chunk after cases.0 cases.1 cases.2 in
    let here = c.are_plain-plain.ensures in
    let others = are_plain (take (length after / 16 * 16) after) in
    ap (λ (x : Bool). (c.loop-chunk.plain && x) && others) here
    ∙ (and_assoc c.loop-chunk.plain (are_plain chunk) others
    ∙ (ap (λ (x : Bool). c.loop-chunk.plain && x) (sym next) ∙ c.loop-chunk.invariant))
