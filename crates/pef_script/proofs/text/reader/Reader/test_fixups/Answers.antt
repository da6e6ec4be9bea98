-- The words end in the section, which ends before 2^32.
use Rattle.std.proofs.Common.{◌≡◌, ℕ, ◌*◌, ap, arith}
use Rattle.pef_script.proofs.text.reader.Reader.test_fixups.Goals as goal

four_times : (a b : ℕ) → a ≡ 4 → a * b ≡ 4 * b
four_times a b is = ap (λ n. n * b) is

pub overlaps-requires : goal.overlaps-requires
overlaps-requires c = omega (arith, four_times)

pub returns-clause-inside : goal.returns-clause-inside
returns-clause-inside c = omega (arith, four_times)
