-- The bytes at the front and those at the end are all bytes of the name.
use Rattle.std.proofs.Common.{◌-◌, ◌/◌, ◌*◌, ◌&&◌, Bool, length, drop, ap, ◌∙◌, arith}
use Rattle.pef_ports.specs.Kept.Plain.{are_plain}
use Rattle.pef_ports.proofs.NameLemmas.{plain-ends}
use Rattle.pef_ports.proofs.name.is_plain_name.Goals as goal

pub returns-then-is_plain_front : goal.returns-then-is_plain_front
returns-then-is_plain_front c =
    let name = c.args.name.now in
    c.are_plain.ensures ∙ (ap are_plain c.in-Some.ensures.cases.1.same
    ∙ (ap (λ (x : Bool). x && are_plain (drop (length name - 16) name)) c.if-is_plain_front.ensures
    ∙ plain-ends name (length name / 16 * 16) (length name - 16) (omega arith)))

pub returns-else-is_plain_front : goal.returns-else-is_plain_front
returns-else-is_plain_front c =
    let name = c.args.name.now in
    c.if-is_plain_front.false ∙ (ap (λ (x : Bool). x && are_plain (drop (length name - 16) name)) c.if-is_plain_front.ensures
    ∙ plain-ends name (length name / 16 * 16) (length name - 16) (omega arith))

pub returns-then-are_plain : goal.returns-then-are_plain
returns-then-are_plain c =
    let name = c.args.name.now in
    let short = c.in_default.ensures.cases in
    let last = c.in-Some-Some.ensures'.cases.1.same in
    let first = ap are_plain c.in-Some-Some.ensures.cases.same in
    c.are_plain-then-are_plain.ensures ∙ (ap are_plain last
    ∙ (ap (λ (x : Bool). x && are_plain (drop (length name - 8) name)) (c.if-are_plain.ensures ∙ first)
    ∙ plain-ends name 8 (length name - 8) (omega (arith, short))))
