-- The code of one more symbol is there, if it has some.
use Rattle.std.proofs.Common.{◌∙◌, ◌+◌, ◌++◌, drop, sym, ap}
use Rattle.cfm_stubs.specs.Kept.Tables.{symbol_seen}
use Rattle.cfm_stubs.specs.MemoryStubs.{code_image}
use Rattle.cfm_stubs.proofs.MemorySteps.{code-more, code-same}
use Rattle.cfm_stubs.proofs.memory.code_image.Goals as goal
use Rattle.cfm_stubs.proofs.memory.code_image.Goals.{then-is_routine+in_ok-put_words, else-is_routine}

pub loop-k-preserved : goal.loop-k-preserved
loop-k-preserved c =
    let xs = c.args.symbols.now in
    let k = c.loop-k.k in
    let s = symbol_seen c.at-class.result in
    let all = code_image c.args.word xs in
    elim c.if-is_routine.branch [
      | then-is_routine+in_ok-put_words w ↦
          (ap (λ v. v.items ++ code_image c.args.word (drop (k + 1) xs)) w.image-is
          ∙ code-more xs k s c.at-class.ensures c.args.word c.loop-k.image.items w.put_words.new.out.items all (sym w.if-is_routine.ensures) w.in_ok-put_words.ensures c.loop-k.invariant)
      | else-is_routine w ↦
          (ap (λ v. v.items ++ code_image c.args.word (drop (k + 1) xs)) w.image-is
          ∙ code-same xs k s c.at-class.ensures c.args.word c.loop-k.image.items all (sym w.if-is_routine.ensures) c.loop-k.invariant)
    ]
