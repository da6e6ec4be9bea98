-- The bytes of at most six digits, of a digit and of a space fit 64 bits.
use Rattle.std.proofs.Common.{◌≡◌, ◌<◌, ◌^◌, ◌+◌, ◌-◌, ◌*◌, ◌/◌, ◌∷◌, [], ◌∙◌, length, sym, ap, subst, arith}
use Rattle.std.proofs.Math.Facts.{Fits-lt-pow}
use Rattle.std.proofs.lemmas.Bool.{eqb-false}
use Rattle.byteorder.specs.Endian.{big_number}
use Rattle.pef_lines.specs.Kept.Numbers.{AreBytes}
use Rattle.pef_lines.proofs.HeadLemmas.{head_loaded, head_spells}
use Rattle.pef_lines.proofs.Loads.{AreBytes-front, big_number-small}
use Rattle.pef_lines.proofs.head.Head.after.Goals as goal

digits_bytes : (c : goal.After-read_u64) → AreBytes c.in-Some.digits.now
digits_bytes c =
    let word : AreBytes c.args.word.now = λ k. Fits-lt-pow (c.type_inv.word k) in
    AreBytes-front c.in-Some.digits.now (c.in-Some.field-0-0.now ∷ []) (subst AreBytes (c.in-Some.ensures.cases.0) word)

-- the digits are what the line begins with
front_is : (c : goal.After-read_u64) → c.read_u64.result / 2 ^ (48 - 8 * length c.in-Some.digits.now + 16) ≡ big_number (length c.in-Some.digits.now) c.in-Some.digits.now
front_is c =
    let line : AreBytes c.args.line.now = λ k. Fits-lt-pow (c.type_inv.line k) in
    rw (c.read_u64.ensures) (head_loaded c.args.line.now c.args.word.now c.in-Some.digits.now c.in-Some.field-0-0.now line c.if-digits-gt-MAX_DIGITS.false c.in-Some.ensures.cases.0 c.requires.begins)

-- they have at most 48 bits
read_small : (c : goal.After-read_u64) → c.read_u64.result / 2 ^ (48 - 8 * length c.in-Some.digits.now + 16) < 2 ^ 48
read_small c =
    rw (front_is c) (big_number-small (length c.in-Some.digits.now) c.in-Some.digits.now (digits_bytes c) c.if-digits-gt-MAX_DIGITS.false)

pub overflow_mul-result : goal.overflow_mul-result
overflow_mul-result c = omega (arith, read_small c)

pub overflow_add-result-2 : goal.overflow_add-result-2
overflow_add-result-2 c = omega (arith, read_small c)

pub invariant_of-result : goal.invariant_of-result
invariant_of-result c = record {
  bytes = digits_bytes c;
  few = c.if-digits-gt-MAX_DIGITS.false;
  key_is = ap (λ n. n * 65536 + 12320) (front_is c);
  shift_is = omega arith;
  room = omega arith;
  spelled = head_spells c.in-Some.digits.now c.in-Some.field-0-0.now c.args.number (omega (arith, eqb-false (length c.in-Some.digits.now) 0 (sym c.is_empty.ensures ∙ c.if-is_empty.false))) (omega arith) (rw (← c.in-Some.ensures.cases.0) c.requires.spells);
}
