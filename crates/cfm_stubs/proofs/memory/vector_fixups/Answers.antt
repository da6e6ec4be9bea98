-- The fixups of one more vector are there, if the symbol is one.
use Rattle.std.proofs.Common.{◌∙◌, ◌+◌, ◌++◌, drop, sym, ap, arith}
use Rattle.cfm_stubs.specs.Kept.Tables.{symbol_seen}
use Rattle.cfm_stubs.specs.MemoryStubs.{vector_fixups}
use Rattle.cfm_stubs.proofs.MemorySteps.{fixups-more, fixups-same}
use Rattle.cfm_stubs.proofs.memory.vector_fixups.Goals as goal
use Rattle.cfm_stubs.proofs.memory.vector_fixups.Goals.{then-is_vector+in_ok-push+in_ok-push-2, else-is_vector}

pub loop-k-preserved : goal.loop-k-preserved
loop-k-preserved c =
    let xs = c.args.symbols.now in
    let k = c.loop-k.k in
    let s = symbol_seen c.at-class.result in
    let all = vector_fixups 0 xs in
    let old = c.loop-k.fixups.items in
    let at = c.loop-k.at in
    elim c.if-is_vector.branch [
      | then-is_vector+in_ok-push+in_ok-push-2 w ↦ record {
        all = ap (λ z. z.items ++ vector_fixups c.if-is_vector.at (drop (k + 1) xs)) w.fixups-is
            ∙ ap (λ n. w.push-then-is_vector.new.self.items ++ vector_fixups n (drop (k + 1) xs)) w.at-is
            ∙ fixups-more xs k s c.at-class.ensures at w.fixup.result w.fixup-then-is_vector.result old w.push.new.self.items w.push-then-is_vector.new.self.items all (sym w.if-is_vector.ensures) w.fixup.ensures w.fixup-then-is_vector.ensures w.in_ok-push.ensures.items w.in_ok-push-2.ensures.items c.loop-k.invariant.all;
        small = omega (arith, w.at-is, c.loop-k.invariant.small);
      }
      | else-is_vector w ↦ record {
        all = ap (λ z. z.items ++ vector_fixups c.if-is_vector.at (drop (k + 1) xs)) w.fixups-is
            ∙ ap (λ n. old ++ vector_fixups n (drop (k + 1) xs)) w.at-is
            ∙ fixups-same xs k s c.at-class.ensures at old all (sym w.if-is_vector.ensures) c.loop-k.invariant.all;
        small = omega (arith, w.at-is, c.loop-k.invariant.small);
      }
    ]
