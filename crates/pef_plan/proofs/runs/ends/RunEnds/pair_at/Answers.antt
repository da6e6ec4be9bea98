use Rattle.std.proofs.Common.{◌≡◌, ◌+◌, ◌<◌, ◌∙◌, ◌∷◌, ap, ap₂, arith, length, slice_index, subst, sym, ℕ, None, Option, Some}
use Rattle.std.proofs.lemmas.List.{get_or_default}
use Rattle.pef_cert.proofs.Laws.{class_of-below}
use Rattle.pef_cert.specs.Labels.{Labels, class_of, classes}
use Rattle.pef_plan.specs.Runs.Ends.{GoesOnMaybe, far_pairs_run, pairs_run, sections_of}
use Rattle.pef_plan.specs.Runs.Tables.{Agrees, place_of}
use Rattle.pef_plan.proofs.RunsProofs.EndsKept.{far_pairs_go_on, near_pairs_go_on, pair_far, pair_near}
use Rattle.pef_plan.proofs.runs.ends.RunEnds.pair_at.Goals as goal

pub returns-in-Some-clause-after : goal.returns-in-Some-clause-after
returns-in-Some-clause-after c = λ l agrees.
    let e = c.requires.ends in
    pair_near l c.args.at.first.base c.args.at.others.now (c.in-Some.first, c.in-Some.second) c.args.self.now.near.items c.index.result.now (e.near l agrees) (sym c.sections_at.ensures ∙ c.in-Some.is) (c.index.ensures
    ∙ (get_or_default c.args.self.now.near.items c.place.result c.index.result.now 0 (omega (arith, c.place.ensures.inside, e.near_len))
    ∙ ap (slice_index c.args.self.now.near.items) (c.place.ensures.is ∙ there l agrees)))
  where
    there : (l : Labels) → Agrees l c.args.known c.args.at.others.now → place_of (length c.args.known.registers.now + 1) c.class_of-c.result c.class_of-d.result ≡ place_of (classes l) (class_of l.registers c.in-Some.first) (class_of l.registers c.in-Some.second)
    there l agrees =
        let regs = sym agrees.same.registers_are in
        ap₂ (λ x y. place_of (length c.args.known.registers.now + 1) x y) c.class_of-c.ensures c.class_of-d.ensures
        ∙ ap (λ rs. place_of (length rs + 1) (class_of rs c.in-Some.first) (class_of rs c.in-Some.second)) regs

class_under : (c : goal.After-row_known-in-Some-1) (l : Labels) → Agrees l c.args.known c.args.at.others.now → class_of c.args.known.registers.now c.in-Some.first < length c.args.known.registers.now + 1
class_under c l agrees = subst (λ rs. class_of rs c.in-Some.first < length rs + 1) agrees.same.registers_are (class_of-below l c.in-Some.first)

pub returns-in-Some-clause-far_after : goal.returns-in-Some-clause-far_after
returns-in-Some-clause-far_after c = λ l agrees.
    let e = c.requires.ends in
    pair_far l c.args.at.first.base c.args.at.others.now (c.in-Some.first, c.in-Some.second) c.args.self.now.far.items c.index-in-Some.result.now (e.far l agrees) (sym c.sections_at.ensures ∙ c.in-Some.is) (c.index-in-Some.ensures
    ∙ (get_or_default c.args.self.now.far.items c.class_of-c.result c.index-in-Some.result.now 0 (rw (e.far_len, c.class_of-c.ensures) (class_under c l agrees))
    ∙ ap (slice_index c.args.self.now.far.items) (c.class_of-c.ensures ∙ ap (λ rs. class_of rs c.in-Some.first) (sym agrees.same.registers_are))))

pub returns-in-Some-clause-on : goal.returns-in-Some-clause-on
returns-in-Some-clause-on c =
    let a = c.args.at in
    let s : ℕ × ℕ = (c.in-Some.first, c.in-Some.second) in
    let is : sections_of a.first.base a.others.now ≡ Some s = sym c.sections_at.ensures ∙ c.in-Some.is in
    subst (λ (o : Option (ℕ × ℕ)). GoesOnMaybe (pairs_run o) (a.first ∷ a.others.now) a.first.offset 0 c.pairs_go_on-on.result.0) (sym is)
    (near_pairs_go_on a.first a.others.now s c.pairs_go_on-on.result.0 is c.pairs_go_on-on.ensures.near)

pub returns-in-Some-clause-far_on : goal.returns-in-Some-clause-far_on
returns-in-Some-clause-far_on c =
    let a = c.args.at in
    let s : ℕ × ℕ = (c.in-Some.first, c.in-Some.second) in
    let is : sections_of a.first.base a.others.now ≡ Some s = sym c.sections_at.ensures ∙ c.in-Some.is in
    subst (λ (o : Option (ℕ × ℕ)). GoesOnMaybe (far_pairs_run o) (a.first ∷ a.others.now) a.first.offset 0 c.pairs_go_on-on.result.1) (sym is)
    (far_pairs_go_on a.first a.others.now s c.pairs_go_on-on.result.1 is c.pairs_go_on-on.ensures.far)

pub returns-in-None-clause-on : goal.returns-in-None-clause-on
returns-in-None-clause-on c =
    let a = c.args.at in
    let is : sections_of a.first.base a.others.now ≡ None = sym c.sections_at.ensures ∙ c.in-None.is in
    subst (λ (o : Option (ℕ × ℕ)). GoesOnMaybe (pairs_run o) (a.first ∷ a.others.now) a.first.offset 0 None) (sym is) tt

pub returns-in-None-clause-far_on : goal.returns-in-None-clause-far_on
returns-in-None-clause-far_on c =
    let a = c.args.at in
    let is : sections_of a.first.base a.others.now ≡ None = sym c.sections_at.ensures ∙ c.in-None.is in
    subst (λ (o : Option (ℕ × ℕ)). GoesOnMaybe (far_pairs_run o) (a.first ∷ a.others.now) a.first.offset 0 None) (sym is) tt
