-- The last pass isn't refused, and so no pass before it is.
use Rattle.std.proofs.Common.{◌≡◌, ◌+◌, ◌*◌, ◌^◌, ◌∙◌, ap, sym, subst, None, refl, arith}
use Rattle.std.proofs.lemmas.Option.{IfSome_then}
use Rattle.pef_reloc.specs.declared.verifying.Walk.{Walk}
use Rattle.pef_reloc.specs.Kept.Walks.{MovesOn, WalksTo, walked}
use Rattle.pef_reloc.specs.Steps.{State, state_after}
use Rattle.pef_reloc.specs.Unrolled.{instrs_in, repeated, steps_from}
use Rattle.pef_reloc.proofs.Execution.{instrs_in-steps}
use Rattle.pef_reloc.proofs.Passes.{Settled, moves-far, passes-leap}
use Rattle.pef_reloc.proofs.verifying.Walk.after_passes.Goals as goal

pub returns-clause-walks : goal.returns-clause-walks
returns-clause-walks c instrs spans before after =
    let z = c.args.sizes in
    let block = steps_from c.args.block.from instrs in
    let s = walked c.args.self in
    let next = c.in_ok-next.next in
    let by = c.in_ok-position.position in
    let index = c.in_ok-imports.imports in
    let more = c.from-more.result in
    let far : State = record { position = s.position + by * more; import_index = s.import_index + index * more; c = next.section_c; d = next.section_d } in
    let same = sym (instrs_in-steps c.args.block.from instrs) in
    let first = c.in_ok-next.ensures.walks instrs spans in
    let done : walked next ≡ state_after (instrs_in block) s = first.after refl in
    let settled : Settled (instrs_in block) s by index = record {
      before = before;
      after = after ∙ ap (λ xs. state_after xs before) same;
      position = sym (ap (λ (t : State). t.position) done) ∙ c.in_ok-position.ensures.0;
      imports = sym (ap (λ (t : State). t.import_index) done) ∙ c.in_ok-imports.ensures.0;
    } in
    let less = c.from-more.ensures in
    let some = c.requires.some in
    let passes : more + 1 ≡ c.args.passes = omega (arith, less, some) in
    IfSome_then c.after_pass-2.result {P = λ (w : Walk). WalksTo z far (walked w) block None} {Q = λ (w : Walk). WalksTo z s (walked w) (repeated c.args.passes block) None} (c.after_pass-2.ensures.walks instrs spans)
    (λ w last. subst (λ n. WalksTo z s (walked w) (repeated n block) None) passes (passes-leap z block s far (walked w) by index more settled refl refl (ap (λ (t : State). t.c) done) (ap (λ (t : State). t.d) done) last))

pub returns-clause-moves : goal.returns-clause-moves
returns-clause-moves c =
    let by = c.in_ok-position.position in
    let index = c.in_ok-imports.imports in
    let more = c.from-more.result in
    let less = c.from-more.ensures in
    let some = c.requires.some in
    let next = c.in_ok-next.next in
    let last : Walk = record { position = c.args.self.position + by * more; import_index = c.args.self.import_index + index * more; section_c = next.section_c; section_d = next.section_d } in
    IfSome_then c.after_pass-2.result {P = λ (w : Walk). MovesOn last w (2 ^ 17)} {Q = λ (w : Walk). MovesOn c.args.self w (2 ^ 17 * c.args.passes)} c.after_pass-2.ensures.moves
    (λ w moves. moves-far c.args.self last w by index more c.args.passes (omega (arith, less, some)) c.in_ok-position.ensures.1 c.in_ok-imports.ensures.1 refl refl moves)
