-- One more fragment is placed, or it is the first that is refused.
use Rattle.std.proofs.Common.{◌≡◌, ◌+◌, arith, ◌++◌, [], ◌∷◌, ℕ, List, ap, ap₂, drop, get_or, length, refl, subst, take, sym, ◌∙◌}
use Rattle.std.proofs.lemmas.List.{append-nil, at_drop_more, take-append-drop, take_more}
use Rattle.std.proofs.lemmas.Result.{err_from_is_err_and}
use Rattle.cfm_memory.specs.Extents.{ArePlacedWith, Rule, rule_after}
use Rattle.cfm_memory.proofs.Laws.{after-both, after-none}
use Rattle.cfm_prepare.specs.Fragments.{extents_in}
use Rattle.cfm_prepare.specs.Kept.Begun.{section_placed}
use Rattle.cfm_prepare.specs.Kept.Ready.{IsNotPlaced, place_count}
use Rattle.cfm_sections.specs.Rules.{rule_of}
use Rattle.cfm_prepare.proofs.FoundLemmas.{absent-next}
use Rattle.cfm_prepare.proofs.PlacingLemmas.{have-more, not-placed}
use Rattle.cfm_prepare.proofs.preparation.Preparation.place.Goals as goal

-- no fragment is placed yet
pub loop-position-init : goal.loop-position-init
loop-position-init c = (
  record {
    empty = c.args.memory.now;
    have = record { fresh = []; behind = sym (append-nil c.args.present.now.items); are = refl; placed = refl };
    sizes = λ j under. absurd (omega (arith, under));
    filled = refl;
  },
  sym (after-none (rule_of c.args.self.now.rule)),
)

pub place_fragment-requires-clause-absent : goal.place_fragment-requires-clause-absent
place_fragment-requires-clause-absent c =
    let at = c.loop-position in
    absent-next c.args.self.now.closure.now.pairs c.args.memory.now at.invariant.0.empty c.args.present.now.items at.present.items c.args.self.now.new.now at.position-index c.requires.new at.invariant.0.have c.loop-position-test.true

pub returns-in_err-count-clause-refused : goal.returns-in_err-count-clause-refused
returns-in_err-count-clause-refused c =
    let at = c.loop-position in
    let new = c.args.self.now.new.now in
    let i = at.position-index in
    let is : new ≡ take i new ++ get_or new i 0 ∷ drop (i + 1) new = sym (take-append-drop i new) ∙ at_drop_more (λ (ys : List ℕ). take i new ++ ys) new i 0 c.loop-position-test.true in
    let p = err_from_is_err_and c.from_residual.result c.from_residual.ensures.1 in
    let R : Rule → Type 0 = λ r. IsNotPlaced r c.args.self.now.closure.now.pairs (get_or new i 0) at.memory c.in_err-count.field-0.0 in
    rw (p.1, p.2) (not-placed c.in_err-count.field-0.0 c.args.self.now.closure.now.pairs c.args.present.now.items at.present.items c.args.memory.now at.memory new (take i new) (drop (i + 1) new) (get_or new i 0)
    at.invariant.0 is (subst R at.invariant.1 c.in_err-count.ensures.refused))

pub loop-position-preserved : goal.loop-position-preserved
loop-position-preserved c =
    let at = c.loop-position in
    let new = c.args.self.now.new.now in
    let i = at.position-index in
    let done = c.in_ok-count.ensures.placed in
    let pairs = c.args.self.now.closure.now.pairs in
    let first = rule_of c.args.self.now.rule in
    let R : Rule → Type 0 = λ r. ArePlacedWith r at.memory (extents_in pairs (get_or new i 0)) (section_placed pairs (get_or new i 0)) done.0 c.place_fragment.new.memory in
    let more = have-more pairs c.args.memory.now at.memory c.place_fragment.new.memory c.args.present.now.items at.present.items c.place_fragment.new.present.items (take i new) (take (i + 1) new) (get_or new i 0) done.0
    at.invariant.0 (subst R at.invariant.1 done.1) done.2 (take_more new i 0 c.loop-position-test.true) in (
      more.0,
      c.after-rule.ensures ∙ ap₂ rule_after at.invariant.1 done.3 ∙ after-both first (place_count at.invariant.0.have.fresh) (length done.0) ∙ ap (rule_after first) (sym more.1),
    )
