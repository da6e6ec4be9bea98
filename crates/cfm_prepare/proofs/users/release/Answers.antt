-- A fragment without users is released, and one that has some is passed.
use Rattle.std.proofs.Common.{◌+◌, ◌≤◌, ℕ, Bool, drop, get_or, length, nat_lt, sym, ◌∙◌, arith}
use Rattle.cfm_prepare.proofs.ReleaseLemmas.{given-first, given-gone, given-kept, given-past}
use Rattle.cfm_prepare.specs.Kept.Users.{count_at}
use Rattle.cfm_prepare.proofs.users.release.Goals as goal
use Rattle.cfm_prepare.proofs.users.release.Goals.{then-not-has_users, else-not-has_users}

pub loop-position-preserved : goal.loop-position-preserved
loop-position-preserved c =
    let at = c.loop-position in
    let ps = c.args.order.now in
    let i = at.position-index in
    let q = get_or ps i 0 in
    let qs = drop (i + 1) ps in
    let all = c.args.fragments.now.present in
    let before = c.args.fragments.now.memory in
    let keep : ℕ → Bool = λ p. nat_lt 0 (count_at c.args.users.now p) in
    let s = given-first keep all at.fragments.present before at.fragments.memory ps i c.loop-position-test.true at.invariant in
    elim c.if-not-has_users.branch [
      | then-not-has_users w ↦ (
          let done = given-gone keep all at.fragments.present w.give_back.new.self.present before at.fragments.memory w.give_back.new.self.memory q qs (sym c.has_users.ensures ∙ w.if-not-has_users.true) w.give_back.ensures s in
          rw (w.fragments-is) done
          )
      | else-not-has_users w ↦ (
          let done = given-kept keep all at.fragments.present before at.fragments.memory q qs (sym c.has_users.ensures ∙ w.if-not-has_users.false) s in
          rw (w.fragments-is) done
          )
    ]

pub returns-clause-present : goal.returns-clause-present
returns-clause-present c =
    let at = c.loop-position in
    let past : length c.args.order.now ≤ at.position-index = omega (arith, c.loop-position-test.false) in
    (given-past (λ p. nat_lt 0 (count_at c.args.users.now p)) c.args.fragments.now.present at.fragments.present c.args.fragments.now.memory at.fragments.memory c.args.order.now at.position-index past at.invariant).0

pub returns-clause-memory : goal.returns-clause-memory
returns-clause-memory c =
    let at = c.loop-position in
    let past : length c.args.order.now ≤ at.position-index = omega (arith, c.loop-position-test.false) in
    (given-past (λ p. nat_lt 0 (count_at c.args.users.now p)) c.args.fragments.now.present at.fragments.present c.args.fragments.now.memory at.fragments.memory c.args.order.now at.position-index past at.invariant).1
