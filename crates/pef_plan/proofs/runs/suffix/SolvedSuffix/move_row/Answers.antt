use Rattle.std.proofs.Common.{◌≡◌, ◌+◌, ◌<◌, ◌≤◌, ◌∙◌, ap, arith, length, subst, sym}
use Rattle.pef_plan.specs.Runs.Kept.Ahead.{value_ahead}
use Rattle.pef_plan.specs.Runs.Tables.{number_in, place_of}
use Rattle.pef_plan.proofs.RunsProofs.KnownLemmas.{label_under, value-ahead, value-end}
use Rattle.pef_plan.proofs.RunsProofs.PlaceLemmas.{zeros_at}
use Rattle.pef_plan.proofs.runs.suffix.SolvedSuffix.move_row.Goals as goal

pub move_all-requires-clause-small : goal.move_all-requires-clause-small
move_all-requires-clause-small c = λ x y under_x under_y.
    let a = c.args in
    let count = c.requires.shaped.count in
    subst (λ r. number_in r a.values.now x y + 2 < 4294967296) (sym c.classes.ensures)
    (let low = label_under a.self (length a.rest.now) x y a.values.now c.requires.shaped c.requires.row (subst (λ r. x < r) c.classes.ensures under_x) (subst (λ r. y < r) c.classes.ensures under_y) in omega (arith, low, count))

pub returns-in-Some-clause-are : goal.returns-in-Some-clause-are
returns-in-Some-clause-are c = λ x y under_x under_y.
    let a = c.args in
    let e = c.classes.ensures in
    let r = length a.self.registers.now + 1 in
    let value = subst (λ r. (x < r → y < r → number_in r c.move_all.new.values x y ≡ value_ahead c.in-Some.ahead (number_in r a.values.now x y) x y)) e (c.move_all.ensures.are x y) in
    let low = subst (λ r. (x < r → y < r → number_in r c.move_all.new.values x y ≤ 2 + number_in r a.values.now x y)) e (c.move_all.ensures.small x y) in
    record {
      is = λ l agrees. value under_x under_y ∙ value-ahead l a.self a.rest.now a.position x y (number_in r a.values.now x y) c.in-Some.ahead c.in-Some.ensures (ap (λ row. number_in r row x y) c.requires.row.is) c.requires.away agrees under_x under_y;
      small = (let one = low under_x under_y in let two = label_under a.self (length a.rest.now) x y a.values.now c.requires.shaped c.requires.row under_x under_y in omega (arith, one, two));
    }

pub returns-in-None-clause-are : goal.returns-in-None-clause-are
returns-in-None-clause-are c = λ x y under_x under_y.
    let a = c.args in
    let zero = zeros_at (length a.values.now) (place_of (length a.self.registers.now + 1) x y) c.fill.new.self (c.fill.ensures.after (λ v is. is)) in
    record {
      is = λ l agrees. zero ∙ value-end l a.rest.now a.position x y (ap length c.in-None.ensures);
      small = omega (arith, zero);
    }
