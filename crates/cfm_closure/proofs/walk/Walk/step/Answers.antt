-- A frame continues with the next fragment that wasn't visited, or its fragment is done.
use Rattle.std.proofs.Common.{◌∙◌, sym, ap, subst}
use Rattle.pef_words.specs.Results.{◌>>=◌}
use Rattle.cfm_closure.specs.Kept.Paths.{Continues, rest_of_path, state_of, visit_and_rest}
use Rattle.cfm_closure.specs.Walk.{joining}
use Rattle.cfm_closure.proofs.FrameLemmas.{met_and_rest, next_is}
use Rattle.cfm_closure.proofs.TableLemmas.{tables-pushed, tables-read}
use Rattle.cfm_closure.proofs.walk.Walk.step.Goals as goal

pub enter-requires-clause-place : goal.enter-requires-clause-place
enter-requires-clause-place c =
    let next = next_is c.args.store.now _ c.args.self.now.marked.items c.args.self.now.order.items c.args.frame c.bind_next.new.frame _ _ c.deref.ensures.value c.in-Some.is (c.in_ok-q.ensures.next c.args.self.now.order.items) in
    next.2

pub enter-requires-clause-unmet : goal.enter-requires-clause-unmet
enter-requires-clause-unmet c =
    let next = next_is c.args.store.now _ c.args.self.now.marked.items c.args.self.now.order.items c.args.frame c.bind_next.new.frame _ _ c.deref.ensures.value c.in-Some.is (c.in_ok-q.ensures.next c.args.self.now.order.items) in
    next.1

pub enter-requires-clause-walk : goal.enter-requires-clause-walk
enter-requires-clause-walk c =
    let w = c.requires.walk in
    let read = tables-read c.args.store.now c.args.self.now.fragments c.bind_next.new.fragments c.in_ok-q.ensures.kept _ _ _ _ w c.in_ok-q.ensures.size c.in_ok-q.ensures.read in
    rw c.in_ok-push-in-Some.ensures.items (tables-pushed c.args.store.now _ _ _ _ _ read c.bind_next.new.frame c.in_ok-q.ensures.frame)

pub finish-requires-clause-walk : goal.finish-requires-clause-walk
finish-requires-clause-walk c =
    let w = c.requires.walk in
    tables-read c.args.store.now c.args.self.now.fragments c.bind_next.new.fragments c.in_ok-q.ensures.kept _ _ _ _ w c.in_ok-q.ensures.size c.in_ok-q.ensures.read

pub finish-requires-clause-all : goal.finish-requires-clause-all
finish-requires-clause-all c =
    let next = next_is c.args.store.now _ c.args.self.now.marked.items c.args.self.now.order.items c.args.frame c.bind_next.new.frame _ _ c.deref.ensures.value c.in-None.is (c.in_ok-q.ensures.next c.args.self.now.order.items) in
    next.1

pub returns-in_ok-push-in-Some-clause-continues : goal.returns-in_ok-push-in-Some-clause-continues
returns-in_ok-push-in-Some-clause-continues c =
    let next = next_is c.args.store.now _ c.args.self.now.marked.items c.args.self.now.order.items c.args.frame c.bind_next.new.frame _ _ c.deref.ensures.value c.in-Some.is (c.in_ok-q.ensures.next c.args.self.now.order.items) in
    let met = met_and_rest c.args.store.now c.args.frame c.bind_next.new.frame c.args.self.now.path.items (state_of c.args.self.now) c.in-Some.q next.0 in
    let path = ap (λ path. visit_and_rest c.args.store.now c.in-Some.q path (state_of c.args.self.now)) c.in_ok-push-in-Some.ensures.items in
    subst (Continues c.enter.result (rest_of_path c.args.store.now c.enter.new.self.path.items (state_of c.enter.new.self))) (sym (met ∙ sym path)) c.enter.ensures.continues

pub returns-in-None-clause-continues : goal.returns-in-None-clause-continues
returns-in-None-clause-continues c =
    let next = next_is c.args.store.now _ c.args.self.now.marked.items c.args.self.now.order.items c.args.frame c.bind_next.new.frame _ _ c.deref.ensures.value c.in-None.is (c.in_ok-q.ensures.next c.args.self.now.order.items) in
    let done = ap (λ r. r >>= rest_of_path c.args.store.now c.args.self.now.path.items) next.0 in
    let place = ap (λ p. rest_of_path c.args.store.now c.args.self.now.path.items (joining p (state_of c.args.self.now))) c.in_ok-q.ensures.same.p in
    subst (Continues c.finish.result (rest_of_path c.args.store.now c.finish.new.self.path.items (state_of c.finish.new.self))) (sym (done ∙ sym place)) c.finish.ensures.continues
