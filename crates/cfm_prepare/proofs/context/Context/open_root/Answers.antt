-- The closure is that of the store. Its new fragments are prepared, or the first refusal is that of all.
use Rattle.std.proofs.Common.{true, arith, ◌≡◌, ◌<◌, ◌+◌, ◌++◌, ◌∷◌, ℕ, List, [], length, Some, Ok, refl, sym, ap, subst, ◌∙◌}
use Rattle.std.proofs.lemmas.List.{length-append}
use Rattle.std.proofs.lemmas.Result.{err_from_is_err_and}
use Rattle.cfm_closure.specs.Closures.{Closed, closed_of}
use Rattle.cfm_store.specs.Stores.{Pair, place_of}
use Rattle.cfm_closure.specs.Faults.{FailsAs}
use Rattle.cfm_closure.proofs.Laws.{closed-complete, closed-root, closed-store}
use Rattle.cfm_prepare.specs.Lists.{IsOnce, has}
use Rattle.cfm_prepare.specs.Fragments.{new_among}
use Rattle.cfm_prepare.specs.Placing.{ArePreparedBy, IsRuleFor}
use Rattle.cfm_prepare.specs.Refusals.{MayNotPrepareNewBy}
use Rattle.cfm_prepare.proofs.ListLemmas.{has-contains, once-from-pairs}
use Rattle.cfm_prepare.proofs.FoundLemmas.{new-has, present-has}
use Rattle.cfm_prepare.specs.Contexts.{ContextState, Open}
use Rattle.cfm_prepare.specs.Kept.Users.{CountsMore, CountUsers}
use Rattle.cfm_prepare.specs.Steps.{HasRoot, IsRefusedLateBy, MayNotPrepareBy, new_of}
use Rattle.cfm_sections.specs.Rules.{rule_of}
use Rattle.cfm_prepare.proofs.OpenLemmas.{ends-contains, of-closure, past-of, within-of}
use Rattle.cfm_prepare.proofs.UsersLemmas.{entered-count, entered-used, same_users, users-few}
use Rattle.cfm_prepare.proofs.context.Context.open_root.Goals as goal

pub returns-in_err-closure-clause-refused : goal.returns-in_err-closure-clause-refused
returns-in_err-closure-clause-refused c = λ name is.
    let p = err_from_is_err_and c.from_residual-in_err-closure.result c.from_residual-in_err-closure.ensures.1 in
    let has : HasRoot c.args.self.now name = record { left = c.requires.left; root = c.args.root; is = is } in
    let fails : FailsAs c.in_err-closure.field-0.0 (closed_of c.args.self.now.pairs c.args.root) = rw (← c.self.view_is) c.in_err-closure.ensures.answer in
    rw (p.1, p.2) (has, fails)

pub returns-in_err-test_bounds-clause-refused : goal.returns-in_err-test_bounds-clause-refused
returns-in_err-test_bounds-clause-refused c = λ name is.
    let p = err_from_is_err_and c.from_residual-in_err-test_bounds.result c.from_residual-in_err-test_bounds.ensures.1 in
    let closed = c.in_ok-closure.closure in
    let of_store = closed-store c.self.inside.store c.args.root closed c.in_ok-closure.ensures.answer in
    let Q : ContextState → Type 0 = λ s. place_of s.pairs name ≡ Some c.args.root in
    let R : ContextState → Type 0 = λ s. s.given < s.bounds.connections in
    let why : MayNotPrepareBy (rule_of c.args.rule) c.args.self.now name c.in_err-test_bounds.field-0.0 = rw (← c.self.view_is) (past-of (rule_of c.args.rule) _ name (record { has = record { left = subst R (sym c.self.view_is) c.requires.left; root = c.args.root; is = subst Q (sym c.self.view_is) is }; closed = closed; is = c.in_ok-closure.ensures.answer }) closed.pairs c.in_err-test_bounds.field-0.0 of_store c.in_err-test_bounds.ensures.refused) in
    rw (p.1, p.2) why

pub prepare-requires : goal.prepare-requires
prepare-requires c =
    let closed = c.in_ok-closure.closure in
    once-from-pairs closed.order (closed-complete c.self.inside.store c.args.root closed c.in_ok-closure.ensures.answer).once

pub returns-in_err-prepare-clause-refused : goal.returns-in_err-prepare-clause-refused
returns-in_err-prepare-clause-refused c = λ name is.
    let p = err_from_is_err_and c.from_residual-in_err-prepare.result c.from_residual-in_err-prepare.ensures.1 in
    let closed = c.in_ok-closure.closure in
    let of_store = closed-store c.self.inside.store c.args.root closed c.in_ok-closure.ensures.answer in
    let there = c.self.inside.fragments.present in
    let within = within-of c.self.inside.store closed.pairs there c.self.inside.fragments.memory c.self.inside.options closed.order of_store c.in_ok-test_bounds.ensures.bytes c.in_ok-test_bounds.ensures.steps in
    let P : List Pair → Type 0 = λ ps. MayNotPrepareNewBy (rule_of c.args.rule) ps there c.self.inside.fragments.memory (new_among there closed.order) c.in_err-prepare.field-0.0 in
    let Q : ContextState → Type 0 = λ s. place_of s.pairs name ≡ Some c.args.root in
    let R : ContextState → Type 0 = λ s. s.given < s.bounds.connections in
    let C : ContextState → Type 0 = λ s. (k : Closed) → closed_of s.pairs c.args.root ≡ Ok k → IsRuleFor (rule_of c.args.rule) s.pairs (new_of s k) in
    let late : IsRefusedLateBy (rule_of c.args.rule) c.args.self.now name c.in_err-prepare.field-0.0 = rw (← c.self.view_is) (record {
      closure = record { has = record { left = subst R (sym c.self.view_is) c.requires.left; root = c.args.root; is = subst Q (sym c.self.view_is) is }; closed = closed; is = c.in_ok-closure.ensures.answer };
      within = record { bytes = within.0; steps = within.1 };
      counted = subst C (sym c.self.view_is) c.requires.counted closed c.in_ok-closure.ensures.answer;
      why = subst P of_store c.in_err-prepare.ensures.refused;
    }) in
    rw (p.1, p.2) late

-- the order that is counted is that of the closure
pub enter-requires-clause-once : goal.enter-requires-clause-once
enter-requires-clause-once c =
    let closed = c.in_ok-closure.closure in
    subst IsOnce (sym c.order.ensures.order) (once-from-pairs closed.order (closed-complete c.self.inside.store c.args.root closed c.in_ok-closure.ensures.answer).once)

pub enter-requires-clause-inside : goal.enter-requires-clause-inside
enter-requires-clause-inside c = λ p there.
    let closed = c.in_ok-closure.closure in
    let here : has closed.order p ≡ true = ap (λ ps. has ps p) (sym c.order.ensures.order) ∙ there in
    let member = (closed-complete c.self.inside.store c.args.root closed c.in_ok-closure.ensures.answer).members p (has-contains closed.order p here) in
    omega (arith, member.place, c.in_ok-make_room.ensures.room, c.len.ensures)

pub enter-requires-clause-few : goal.enter-requires-clause-few
enter-requires-clause-few c = λ p.
    let os = c.self.inside.connections.items in
    omega (arith, c.in_ok-make_room.ensures.same p, c.self.invariant.counted p, users-few os p, c.self.invariant.many, c.self.invariant.few, c.self.invariant.small)

pub new-requires-clause-root : goal.new-requires-clause-root
new-requires-clause-root c =
    let P : ContextState → Type 0 = λ s. c.args.root < length s.pairs in
    ends-contains c.in_ok-closure.closure.order c.args.root (closed-root c.self.inside.store c.args.root c.in_ok-closure.closure (subst P (sym c.self.view_is) c.requires.root) c.in_ok-closure.ensures.answer)

pub new-requires-clause-once : goal.new-requires-clause-once
new-requires-clause-once c =
    let closed = c.in_ok-closure.closure in
    once-from-pairs closed.order (closed-complete c.self.inside.store c.args.root closed c.in_ok-closure.ensures.answer).once

pub new-requires-clause-init : goal.new-requires-clause-init
new-requires-clause-init c =
    let closed = c.in_ok-closure.closure in
    of-closure c.self.inside.store c.args.root closed c.in_ok-closure.ensures.answer

pub returns-clause-prepared : goal.returns-clause-prepared
returns-clause-prepared c = λ name is.
    let before = c.self.inside.connections in
    let closed = c.in_ok-closure.closure in
    let of_store = closed-store c.self.inside.store c.args.root closed c.in_ok-closure.ensures.answer in
    let number : c.given-number.result ≡ before.given = c.given-number.ensures ∙ c.in_ok-reserve.ensures.given in
    let o : Open = record { number = before.given; root = c.args.root; closed = closed; placed = new_among c.self.inside.fragments.present closed.init_order } in
    let placed : c.in_ok-placed.placed.items ≡ new_among c.self.inside.fragments.present closed.init_order = c.in_ok-placed.ensures ∙ ap (new_among c.self.inside.fragments.present) c.init_order.ensures in
    let made : c.new.result ≡ o =
    c.new.ensures ∙ ap (λ n. record { number = n; root = c.args.root; closed = closed; placed = c.in_ok-placed.placed.items }) number ∙ ap (λ (ps : List ℕ). record { number = before.given; root = c.args.root; closed = closed; placed = ps }) placed in
    let done = c.in_ok-prepare.ensures.prepared in
    let there = c.self.inside.fragments.present in
    let within = within-of c.self.inside.store closed.pairs there c.self.inside.fragments.memory c.self.inside.options closed.order of_store c.in_ok-test_bounds.ensures.bytes c.in_ok-test_bounds.ensures.steps in
    let P : List Pair → Type 0 = λ ps. ArePreparedBy (rule_of c.args.rule) ps there c.self.inside.fragments.memory (new_among there closed.order) done.0 c.prepare.new.self.memory in
    let Q : ContextState → Type 0 = λ s. place_of s.pairs name ≡ Some c.args.root in
    let R : ContextState → Type 0 = λ s. s.given < s.bounds.connections in
    let C : ContextState → Type 0 = λ s. (k : Closed) → closed_of s.pairs c.args.root ≡ Ok k → IsRuleFor (rule_of c.args.rule) s.pairs (new_of s k) in
    rw (← c.self.view_is) (record {
      closure = record { has = record { left = subst R (sym c.self.view_is) c.requires.left; root = c.args.root; is = subst Q (sym c.self.view_is) is }; closed = closed; is = c.in_ok-closure.ensures.answer };
      within = record { bytes = within.0; steps = within.1 };
      counted = subst C (sym c.self.view_is) c.requires.counted closed c.in_ok-closure.ensures.answer;
      fresh = done.0;
      prepared = subst P of_store done.2;
      number = number;
      bounds = refl;
      pairs = c.in_ok-closure.ensures.same;
      given = c.push.ensures.given ∙ ap (λ n. n + 1) c.in_ok-reserve.ensures.given;
      connections = c.push.ensures.items ∙ ap (λ (xs : List Open). xs ++ c.new.result ∷ []) c.in_ok-reserve.ensures.items ∙ ap (λ (x : Open). before.items ++ x ∷ []) made;
      present = done.1;
    })

pub invariant_of-self-2 : goal.invariant_of-self-2
invariant_of-self-2 c =
    let before = c.self.inside.connections in
    let os = before.items in
    let closed = c.in_ok-closure.closure in
    let number : c.given-number.result ≡ before.given = c.given-number.ensures ∙ c.in_ok-reserve.ensures.given in
    let o : Open = record { number = before.given; root = c.args.root; closed = closed; placed = new_among c.self.inside.fragments.present closed.init_order } in
    let placed : c.in_ok-placed.placed.items ≡ new_among c.self.inside.fragments.present closed.init_order = c.in_ok-placed.ensures ∙ ap (new_among c.self.inside.fragments.present) c.init_order.ensures in
    let made : c.new.result ≡ o =
    c.new.ensures ∙ ap (λ n. record { number = n; root = c.args.root; closed = closed; placed = c.in_ok-placed.placed.items }) number ∙ ap (λ (ps : List ℕ). record { number = before.given; root = c.args.root; closed = closed; placed = ps }) placed in
    let pushed : c.push.new.self.items ≡ os ++ o ∷ [] = c.push.ensures.items ∙ ap (λ (xs : List Open). xs ++ c.new.result ∷ []) c.in_ok-reserve.ensures.items ∙ ap (λ (x : Open). os ++ x ∷ []) made in
    let given : c.push.new.self.given ≡ before.given + 1 = c.push.ensures.given ∙ ap (λ n. n + 1) c.in_ok-reserve.ensures.given in
    let done = c.in_ok-prepare.ensures.prepared in
    let there = c.self.inside.fragments.present in
    let R : ContextState → Type 0 = λ s. s.given < s.bounds.connections in
    let left : before.given < c.self.inside.options.connections = subst R (sym c.self.view_is) c.requires.left in
    let P : List ℕ → Type 0 = λ ps. CountsMore ps c.make_room.new.users.items c.enter.new.users.items in
    let Q : List Open → Type 0 = λ xs. CountUsers c.enter.new.users.items xs in
    record {
      few = omega (arith, left, given);
      small = c.self.invariant.small;
      many = omega (arith, ap length pushed, length-append os (o ∷ []), c.self.invariant.many, given);
      counted = subst Q (sym pushed) (entered-count os o c.make_room.new.users.items c.enter.new.users.items (same_users c.self.inside.users.items c.make_room.new.users.items os c.in_ok-make_room.ensures.same c.self.invariant.counted) (subst P c.order.ensures.order c.enter.ensures));
      used = entered-used c.make_room.new.users.items c.enter.new.users.items there c.prepare.new.self.present done.0 closed.order (subst P c.order.ensures.order c.enter.ensures)
          (λ p here. (let used = c.self.invariant.used p here in let same = c.in_ok-make_room.ensures.same p in omega (arith, used, same))) done.1
          (λ p here. new-has there closed.order p (ap (λ ps. has ps p) (sym done.2.are.are) ∙ (sym (present-has done.0 p) ∙ here)));
    }
