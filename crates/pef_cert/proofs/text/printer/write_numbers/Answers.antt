use Rattle.std.proofs.Common.{◌+◌, ◌-◌, ◌<◌, ◌≤◌, ◌∙◌, ap, sym, subst, ◌++◌, ℕ, length, decimal, drop, arith, ◌≡◌, Fits, w32}
use Rattle.std.proofs.lemmas.Fmt.{length-decimal-le}
use Rattle.std.proofs.Math.ListN.{length-set}
use Rattle.pef_cert.specs.Text.Printed.{number_words, words_text}
use Rattle.pef_cert.proofs.TextProofs.PrintLemmas.{words-front}
use Rattle.pef_cert.proofs.text.printer.write_numbers.Goals as goal

-- a number of 32 bits has at most ten digits
short : (n m : ℕ) → n ≡ m → Fits w32 m → length (decimal n) ≤ 10
short n m is small = length-decimal-le 10 n (omega arith) (omega arith) (omega arith)

pub write_digits-at-requires : goal.write_digits-at-requires
write_digits-at-requires c =
    let few = short c.from.result _ c.from.ensures (c.type_inv.numbers (c.numbers.left - 1)) in
    (omega (arith, few), omega arith)

pub overflow_sub-at : goal.overflow_sub-at
overflow_sub-at c =
    let few = short c.from.result _ c.from.ensures (c.type_inv.numbers (c.numbers.left - 1)) in
    omega (arith, few)

pub numbers-preserved : goal.numbers-preserved
numbers-preserved c =
    let few = short c.from.result _ c.from.ensures (c.type_inv.numbers (c.numbers.left - 1)) in
    let buf = c.write_digits-at.new.buf in
    let i = c.write_digits-at.result - 1 in
    let left = c.numbers.left - 1 in
    let start : i + 1 ≡ c.write_digits-at.result = omega (arith, few) in
    let next : left + 1 ≡ c.numbers.left = omega arith in
    let under : left < length c.args.numbers.now = omega arith in
    let inside : i < length buf = omega (arith, few) in
    record {
      inside = omega (arith, few, length-set buf i 0x20);
      room = omega (arith, few);
      count = omega arith;
      written = words-front c.args.numbers.now c.numbers.words buf left c.numbers.at i under inside
          (ap (λ k. drop k buf) start ∙ subst (λ n. drop c.write_digits-at.result buf ≡ decimal n ++ drop c.numbers.at c.numbers.words) c.from.ensures c.write_digits-at.ensures.written)
          (subst (λ k. drop c.numbers.at c.numbers.words ≡ words_text (number_words (drop k c.args.numbers.now))) (sym next) c.numbers.invariant.written);
    }
