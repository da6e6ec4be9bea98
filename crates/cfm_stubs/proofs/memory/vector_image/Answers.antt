-- One more vector is there, if the symbol is one. The next code is after its own.
use Rattle.std.proofs.Common.{◌∙◌, ◌+◌, ◌++◌, drop, sym, ap, arith}
use Rattle.cfm_stubs.specs.Kept.Tables.{symbol_seen}
use Rattle.cfm_stubs.specs.MemoryStubs.{vector_image}
use Rattle.cfm_stubs.proofs.MemorySteps.{image-code, image-same, image-vector, vector-routine}
use Rattle.cfm_stubs.proofs.memory.vector_image.Goals as goal
use Rattle.cfm_stubs.proofs.memory.vector_image.Goals.{then-is_vector+in_ok-put_words, else-is_vector, then-is_routine, else-is_routine}

pub loop-k-preserved : goal.loop-k-preserved
loop-k-preserved c =
    let xs = c.args.symbols.now in
    let k = c.loop-k.k in
    let s = symbol_seen c.at-class.result in
    let all = vector_image 0 xs in
    let old = c.loop-k.image.items in
    let code = c.loop-k.code in
    elim c.if-is_vector.branch [
      | then-is_vector+in_ok-put_words v ↦ elim c.if-is_routine.branch [
        | then-is_routine r ↦ record {
          all = ap (λ z. z.items ++ vector_image c.if-is_routine.code (drop (k + 1) xs)) v.image-is
              ∙ ap (λ n. v.put_words.new.out.items ++ vector_image n (drop (k + 1) xs)) r.code-is
              ∙ image-vector xs k s c.at-class.ensures code old v.put_words.new.out.items all (sym v.if-is_vector.ensures) v.in_ok-put_words.ensures c.loop-k.invariant.all;
          small = omega (arith, r.code-is, c.loop-k.invariant.small);
        }
        | else-is_routine r ↦ (let is = vector-routine c.at-class.result.1 (sym v.if-is_vector.ensures) in let none = r.if-is_routine.ensures in absurd (cc))
      ]
      | else-is_vector v ↦ elim c.if-is_routine.branch [
        | then-is_routine r ↦ record {
          all = ap (λ z. z.items ++ vector_image c.if-is_routine.code (drop (k + 1) xs)) v.image-is
              ∙ ap (λ n. old ++ vector_image n (drop (k + 1) xs)) r.code-is
              ∙ image-code xs k s c.at-class.ensures code old all (sym v.if-is_vector.ensures) (sym r.if-is_routine.ensures) c.loop-k.invariant.all;
          small = omega (arith, r.code-is, c.loop-k.invariant.small);
        }
        | else-is_routine r ↦ record {
          all = ap (λ z. z.items ++ vector_image c.if-is_routine.code (drop (k + 1) xs)) v.image-is
              ∙ ap (λ n. old ++ vector_image n (drop (k + 1) xs)) r.code-is
              ∙ image-same xs k s c.at-class.ensures code old all (sym v.if-is_vector.ensures) (sym r.if-is_routine.ensures) c.loop-k.invariant.all;
          small = omega (arith, r.code-is, c.loop-k.invariant.small);
        }
      ]
    ]
