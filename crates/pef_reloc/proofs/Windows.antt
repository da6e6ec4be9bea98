-- Where the last instructions begin, as a reader keeps it, and the steps of the block of a repeat.
use Rattle.std.proofs.Common.{◌≡◌, ℕ, zero, suc, ◌+◌, ◌*◌, ◌-◌, ◌/◌, ◌%◌, ◌<◌, ◌≤◌, ◌≢◌, Bool, true, false, cond, List, [], ◌∷◌, length, drop, set, get_or, nat_le, Option, None, Some, Result, Ok, Err, refl, ap, sym, subst, ◌∙◌, arith, length-append, is_ok}
use Rattle.std.specs.Option.{is_none, is_some}
use Rattle.std.proofs.lemmas.List.{get_or-set_same, get_or-set_other, length-set}
use Rattle.std.proofs.lemmas.Bool.{le-leb, lt-leb, leb-true}
use Rattle.pef_words.specs.Refusals.{unless}
use Rattle.pef_reloc.specs.declared.fault.RelocFault.{RelocFault}
use Rattle.pef_reloc.specs.declared.fault.RelocFault.TheVariants.{NestedRepeat, RepeatCuts, RepeatTooFar}
use Rattle.pef_reloc.specs.declared.instr.Instr.{Instr}
use Rattle.pef_reloc.specs.declared.instr.Repeat.{Repeat}
use Rattle.pef_reloc.specs.Decoding.{first_instr}
use Rattle.pef_reloc.specs.Instrs.{instr_length, program_length, repeat_free, repeat_of}
use Rattle.pef_reloc.specs.Kept.Places.{Before, Spans}
use Rattle.pef_reloc.specs.Kept.Readers.{Marks, flat_count}
use Rattle.pef_reloc.specs.Unrolled.{block_of, place_after, reached, repeat_fault, repeated, steps_as}
use Rattle.pef_reloc.proofs.Blocks.{begins, reach, spans-order}
use Rattle.pef_reloc.proofs.CodeLemmas.{some_length}

either : (b : Bool) (r s : Result (List Instr) (ℕ → RelocFault)) → is_ok r ≡ is_ok s → is_ok (cond b r (Err RepeatCuts)) ≡ is_ok (cond b s (Err RepeatCuts))
either true r s e = e
either false r s e = refl

-- how far back an instruction begins doesn't depend on the instructions reached before
behind : (before : List Instr) (n : ℕ) (xs ys : List Instr) → is_ok (reached before n xs) ≡ is_ok (reached before n ys)
behind [] zero xs ys = refl
behind [] (suc n) xs ys = refl
behind (x ∷ before) zero xs ys = refl
behind (x ∷ before) (suc n) xs ys = either (nat_le (instr_length x) (suc n)) _ _ (behind before (suc n - instr_length x) (x ∷ xs) (x ∷ ys))

reached-nothing : (before block : List Instr) → reached before 0 block ≡ Ok block
reached-nothing [] block = refl
reached-nothing (x ∷ before) block = refl

-- after the last instruction
begins-past : (x : Instr) (before : List Instr) (n : ℕ) → 1 ≤ n → instr_length x ≤ n → is_ok (reached (x ∷ before) n []) ≡ is_ok (reached before (n - instr_length x) [])
begins-past x before zero some fits = absurd (omega arith)
begins-past x before (suc n) some fits = rw (le-leb (instr_length x) (suc n) fits) (behind before (suc n - instr_length x) (x ∷ []) [])

-- where the last instruction begins
begins-here : (x : Instr) (before : List Instr) (n : ℕ) → n ≡ instr_length x → is_ok (reached (x ∷ before) n []) ≡ true
begins-here x before n e =
    let some = some_length x in
    let nothing : n - instr_length x ≡ 0 = omega (arith, e) in
    begins-past x before n (omega (arith, e, some)) (omega (arith, e)) ∙ (ap (λ k. is_ok (reached before k [])) nothing ∙ ap is_ok (reached-nothing before []))

-- inside the last instruction
begins-inside : (x : Instr) (before : List Instr) (n : ℕ) → 1 ≤ n → n < instr_length x → is_ok (reached (x ∷ before) n []) ≡ false
begins-inside x before zero some under = absurd (omega arith)
begins-inside x before (suc n) some under = rw (lt-leb (instr_length x) (suc n) under) refl

-- each mark after an instruction of one halfword
one_at : (marks : List Bool) (x : Instr) (before : List Instr) → instr_length x ≡ 1 → Marks marks before → (n : ℕ) → 1 ≤ n → n ≤ 16 → n ≤ instr_length x + program_length before → get_or (set marks (program_length before % 16) true) ((instr_length x + program_length before - n) % 16) false ≡ is_ok (reached (x ∷ before) n [])
one_at marks x before one old zero some few inside = absurd (omega arith)
one_at marks x before one old (suc zero) some few inside =
    let m = program_length before in
    let place : (instr_length x + m - 1) % 16 ≡ m % 16 = omega (arith, one) in
    rw place (get_or-set_same marks (m % 16) true false (omega (arith, old.full)) ∙ sym (begins-here x before 1 (sym one)))
one_at marks x before one old (suc (suc k)) some few inside =
    let m = program_length before in
    let place : (instr_length x + m - suc (suc k)) % 16 ≡ (m - suc k) % 16 = omega (arith, one) in
    let apart : (m - suc k) % 16 ≢ m % 16 = λ e. omega (arith, e, one, few, inside) in
    let less : suc (suc k) - instr_length x ≡ suc k = omega (arith, one) in
    rw place (get_or-set_other marks (m % 16) ((m - suc k) % 16) true false apart
    ∙ (old.begins (suc k) (omega arith) (omega (arith, few)) (omega (arith, inside, one))
    ∙ sym (begins-past x before (suc (suc k)) some (omega (arith, one)) ∙ ap (λ n. is_ok (reached before n [])) less)))

-- each mark after one of two
two_at : (marks : List Bool) (x : Instr) (before : List Instr) → instr_length x ≡ 2 → Marks marks before → (n : ℕ) → 1 ≤ n → n ≤ 16 → n ≤ instr_length x + program_length before → get_or (set (set marks (program_length before % 16) true) ((program_length before + 1) % 16) false) ((instr_length x + program_length before - n) % 16) false ≡ is_ok (reached (x ∷ before) n [])
two_at marks x before two old zero some few inside = absurd (omega arith)
two_at marks x before two old (suc zero) some few inside =
    let m = program_length before in
    let place : (instr_length x + m - 1) % 16 ≡ (m + 1) % 16 = omega (arith, two) in
    let long : (m + 1) % 16 < length (set marks (m % 16) true) = omega (arith, old.full, length-set marks (m % 16) true) in
    rw place (get_or-set_same (set marks (m % 16) true) ((m + 1) % 16) false false long ∙ sym (begins-inside x before 1 some (omega (arith, two))))
two_at marks x before two old (suc (suc zero)) some few inside =
    let m = program_length before in
    let place : (instr_length x + m - 2) % 16 ≡ m % 16 = omega (arith, two) in
    let apart : m % 16 ≢ (m + 1) % 16 = λ e. omega (arith, e) in
    rw place (get_or-set_other (set marks (m % 16) true) ((m + 1) % 16) (m % 16) false false apart
    ∙ (get_or-set_same marks (m % 16) true false (omega (arith, old.full)) ∙ sym (begins-here x before 2 (sym two))))
two_at marks x before two old (suc (suc (suc k))) some few inside =
    let m = program_length before in
    let place : (instr_length x + m - suc (suc (suc k))) % 16 ≡ (m - suc k) % 16 = omega (arith, two) in
    let first : (m - suc k) % 16 ≢ m % 16 = λ e. omega (arith, e, two, few, inside) in
    let second : (m - suc k) % 16 ≢ (m + 1) % 16 = λ e. omega (arith, e, two, few, inside) in
    let less : suc (suc (suc k)) - instr_length x ≡ suc k = omega (arith, two) in
    rw place (get_or-set_other (set marks (m % 16) true) ((m + 1) % 16) ((m - suc k) % 16) false false second
    ∙ (get_or-set_other marks (m % 16) ((m - suc k) % 16) true false first
    ∙ (old.begins (suc k) (omega arith) (omega (arith, few)) (omega (arith, inside, two))
    ∙ sym (begins-past x before (suc (suc (suc k))) some (omega (arith, two)) ∙ ap (λ n. is_ok (reached before n [])) less))))

-- an instruction of one halfword is marked
pub mark-one : (marks : List Bool) (x : Instr) (before : List Instr) (at : ℕ) → instr_length x ≡ 1 → at ≡ 2 * program_length before → Marks marks before → Marks (set marks (at / 2 % 16) true) (x ∷ before)
mark-one marks x before at one at_is old =
    let half : at / 2 ≡ program_length before = omega (arith, at_is) in
    rw half (record {
      full = length-set marks (program_length before % 16) true ∙ old.full;
      begins = one_at marks x before one old;
    })

-- and one of two
pub mark-two : (marks : List Bool) (x : Instr) (before : List Instr) (at : ℕ) → instr_length x ≡ 2 → at ≡ 2 * program_length before → Marks marks before → Marks (set (set marks (at / 2 % 16) true) ((at / 2 + 1) % 16) false) (x ∷ before)
mark-two marks x before at two at_is old =
    let m = program_length before in
    let half : at / 2 ≡ m = omega (arith, at_is) in
    rw half (record {
      full = length-set (set marks (m % 16) true) ((m + 1) % 16) false ∙ (length-set marks (m % 16) true ∙ old.full);
      begins = two_at marks x before two old;
    })

-- the instructions of a block that are left to count
pub record CountLeft (bytes : List ℕ) (at to count : ℕ) (block : List Instr) : Type 0 where
  pub rest : List Instr
  pub spans : Spans bytes at rest to
  pub flat_is : repeat_free rest ≡ repeat_free block
  pub count_is : count + length rest ≡ length block

-- the first instruction
pub record First (bytes : List ℕ) (at to : ℕ) (rest : List Instr) (x : Instr) : Type 0 where
  pub others : List Instr
  pub rest_is : rest ≡ x ∷ others
  pub spans : Spans bytes (at + 2 * instr_length x) others to

first-of : (bytes : List ℕ) (at to : ℕ) (rest : List Instr) (x : Instr) → Spans bytes at rest to → at < to → first_instr at (drop at bytes) ≡ Ok x → First bytes at to rest x
first-of bytes at to [] x spans under here = absurd (omega arith)
first-of bytes at to (y ∷ ys) x spans under here =
    let same : y ≡ x = cc (spans.0, here) in
    let P : Instr → Type 0 = λ z. Spans bytes (at + 2 * instr_length z) ys to in
    record { others = ys; rest_is = ap (λ z. z ∷ ys) same; spans = subst P same spans.1 }

plain_one : (r : Option Repeat) → is_some r ≡ false → is_none r ≡ true
plain_one None e = refl
plain_one (Some r) e = absurd (cc e)

rough_one : (r : Option Repeat) → is_some r ≡ true → is_none r ≡ false
rough_one None e = absurd (cc e)
rough_one (Some r) e = refl

pub count-more : (bytes : List ℕ) (at to count : ℕ) (block : List Instr) (x : Instr) → CountLeft bytes at to count block → at < to → first_instr at (drop at bytes) ≡ Ok x → is_some (repeat_of x) ≡ false → CountLeft bytes (at + 2 * instr_length x) to (count + 1) block
count-more bytes at to count block x left under here plain =
    let f = first-of bytes at to left.rest x left.spans under here in
    let flat : repeat_free (x ∷ f.others) ≡ repeat_free f.others = rw (plain_one (repeat_of x) plain) refl in
    let long : length left.rest ≡ suc (length f.others) = ap length f.rest_is in
    record {
      rest = f.others;
      spans = f.spans;
      flat_is = sym (ap repeat_free f.rest_is ∙ flat) ∙ left.flat_is;
      count_is = omega (arith, long, left.count_is);
    }

-- a repeat in the block
pub count-nested : (bytes : List ℕ) (at to count : ℕ) (block : List Instr) (x : Instr) → CountLeft bytes at to count block → at < to → first_instr at (drop at bytes) ≡ Ok x → is_some (repeat_of x) ≡ true → flat_count to block ≡ Err (NestedRepeat to)
count-nested bytes at to count block x left under here nested =
    let f = first-of bytes at to left.rest x left.spans under here in
    let rough : repeat_free block ≡ false = sym left.flat_is ∙ (ap repeat_free f.rest_is ∙ rw (rough_one (repeat_of x) nested) refl) in
    rw rough refl

-- a place inside a block begins an instruction
pub count-begins : (bytes : List ℕ) (at to count : ℕ) (block : List Instr) (f : RelocFault) → CountLeft bytes at to count block → at < to → first_instr at (drop at bytes) ≡ Err f → ⊥
count-begins bytes at to count block f left = begins bytes at to f left.rest left.spans

-- a block that is counted
counted : (bytes : List ℕ) (at to count : ℕ) (block rest : List Instr) → Spans bytes at rest to → repeat_free rest ≡ repeat_free block → count + length rest ≡ length block → to ≤ at → flat_count to block ≡ Ok count
counted bytes at to count block [] spans flat long past =
    let all : length block ≡ count = omega (arith, long) in
    rw (← flat) (ap Ok all)
counted bytes at to count block (y ∷ ys) spans flat long past =
    let later = spans-order bytes (at + 2 * instr_length y) ys to spans.1 in
    let some = some_length y in
    absurd (omega (arith, later, some))

pub count-end : (bytes : List ℕ) (at to count : ℕ) (block : List Instr) → CountLeft bytes at to count block → to ≤ at → flat_count to block ≡ Ok count
count-end bytes at to count block left = counted bytes at to count block left.rest left.spans left.flat_is left.count_is

-- where the instructions before a place end
pub before_length : (bytes : List ℕ) (before : List Instr) (at : ℕ) → Before bytes before at → at ≡ 2 * program_length before
before_length bytes [] at stands = omega (arith, stands)
before_length bytes (x ∷ before) at (prev, at_is, here, others) = omega (arith, at_is, before_length bytes before prev others)

-- a repeat that reaches back past the start
far : (before block : List Instr) (n : ℕ) → program_length before < n → reached before n block ≡ Err RepeatTooFar
far before block zero under = absurd (omega arith)
far [] block (suc n) under = refl
far (x ∷ before) block (suc n) under =
    rw (le-leb (instr_length x) (suc n) (omega (arith, under))) (far before (x ∷ block) (suc n - instr_length x) (omega (arith, under)))

cut_at : (b : Bool) (r : Result (List Instr) (ℕ → RelocFault)) → (b ≡ true → is_ok r ≡ false → r ≡ Err RepeatCuts) → is_ok (cond b r (Err RepeatCuts)) ≡ false → cond b r (Err RepeatCuts) ≡ Err RepeatCuts
cut_at true r further e = further refl e
cut_at false r further e = refl

-- one that doesn't, and doesn't reach the beginning of an instruction
cut : (before block : List Instr) (n : ℕ) → n ≤ program_length before → is_ok (reached before n block) ≡ false → reached before n block ≡ Err RepeatCuts
cut [] block zero inside e = absurd (cc e)
cut [] block (suc n) inside e = absurd (omega arith)
cut (x ∷ before) block zero inside e = absurd (cc e)
cut (x ∷ before) block (suc n) inside e =
    cut_at (nat_le (instr_length x) (suc n)) (reached before (suc n - instr_length x) (x ∷ block))
    (λ fits cuts. cut before (x ∷ block) (suc n - instr_length x) (omega (arith, inside, leb-true (instr_length x) (suc n) fits)) cuts) e

-- and one that does
there : (r : Result (List Instr) (ℕ → RelocFault)) → is_ok r ≡ true → (block : List Instr) × (r ≡ Ok block)
there (Ok block) e = (block, refl)
there (Err f) e = absurd (cc e)

pub steps-far : (bytes : List ℕ) (before : List Instr) (r : Repeat) (at steps : ℕ) → Before bytes before at → at < 2 * r.blocks → unless (repeat_fault before (Some r)) (Ok steps) ≡ Err (RepeatTooFar at)
steps-far bytes before r at steps stands past =
    let ends = before_length bytes before at stands in
    rw (far before [] r.blocks (omega (arith, past, ends))) (ap (λ place. Err (RepeatTooFar place)) (sym ends))

-- what the marks say about the place that a repeat reaches back to
pub record Reaches (before : List Instr) (r : Repeat) (at : ℕ) (begins : Bool) : Type 0 where
  pub place_is : at ≡ place_after before
  pub inside : r.blocks ≤ program_length before
  pub begins_is : is_ok (reached before r.blocks []) ≡ begins

pub reaches : (bytes : List ℕ) (marks : List Bool) (before : List Instr) (r : Repeat) (at : ℕ) (begins : Bool) → Before bytes before at → Marks marks before → 1 ≤ r.blocks → r.blocks ≤ 16 → 2 * r.blocks ≤ at → get_or marks ((at - 2 * r.blocks) / 2 % 16) false ≡ begins → Reaches before r at begins
reaches bytes marks before r at begins stands old some few near e =
    let ends = before_length bytes before at stands in
    let inside : r.blocks ≤ program_length before = omega (arith, ends, near) in
    let place : (at - 2 * r.blocks) / 2 ≡ program_length before - r.blocks = omega (arith, ends, near) in
    record {
      place_is = ends;
      inside = inside;
      begins_is = sym (old.begins r.blocks some few inside) ∙ (ap (λ h. get_or marks (h % 16) false) (sym place) ∙ e);
    }

pub steps-cut : (before : List Instr) (r : Repeat) (at steps : ℕ) → Reaches before r at false → unless (repeat_fault before (Some r)) (Ok steps) ≡ Err (RepeatCuts at)
steps-cut before r at steps reach = rw (cut before [] r.blocks reach.inside reach.begins_is) (ap (λ place. Err (RepeatCuts place)) (sym reach.place_is))

-- the block of a repeat whose reach begins an instruction
pub record BlockThere (bytes : List ℕ) (before : List Instr) (r : Repeat) (at : ℕ) : Type 0 where
  pub place_is : at ≡ place_after before
  pub block : List Instr
  pub is : reached before r.blocks [] ≡ Ok block
  pub spans : Spans bytes (at - 2 * r.blocks) block at

pub block-there : (bytes : List ℕ) (before : List Instr) (r : Repeat) (at : ℕ) → Before bytes before at → Reaches before r at true → BlockThere bytes before r at
block-there bytes before r at stands reaches =
    let found = there (reached before r.blocks []) reaches.begins_is in
    record { place_is = reaches.place_is; block = found.0; is = found.1; spans = (reach bytes before r.blocks at [] found.0 at stands refl found.1).spans }

pub length-repeated : {A : Type 0} (n : ℕ) (block : List A) → length (repeated n block) ≡ n * length block
length-repeated zero block = omega arith
length-repeated (suc n) block = rw (length-append block (repeated n block), length-repeated n block) (omega arith)

nested : (place : ℕ) (b : Bool) (k steps : ℕ) (f : RelocFault) → cond b (Ok k) (Err (NestedRepeat place)) ≡ Err f → unless (cond b None (Some (NestedRepeat place))) (Ok steps) ≡ Err f
nested place true k steps f e = absurd (cc e)
nested place false k steps f e = cc e

-- the steps of a repeat, from those of its block
pub steps-nested : (bytes : List ℕ) (before : List Instr) (r : Repeat) (at steps : ℕ) (f : RelocFault) (found : BlockThere bytes before r at) → flat_count at found.block ≡ Err f → unless (repeat_fault before (Some r)) (Ok steps) ≡ Err f
steps-nested bytes before r at steps f found e =
    let P : ℕ → Type 0 = λ place. flat_count place found.block ≡ Err f in
    rw found.is (nested (place_after before) (repeat_free found.block) (length found.block) steps f (subst P found.place_is e))

fine_count : (place : ℕ) (b : Bool) (k n : ℕ) → cond b (Ok k) (Err (NestedRepeat place)) ≡ Ok n → (b ≡ true) × (k ≡ n)
fine_count place true k n e = (refl, cc e)
fine_count place false k n e = absurd (cc e)

pub steps-fine : (bytes : List ℕ) (before : List Instr) (r : Repeat) (at count : ℕ) (found : BlockThere bytes before r at) → flat_count at found.block ≡ Ok count → unless (repeat_fault before (Some r)) (Ok (steps_as before (Some r))) ≡ Ok (r.passes * count + 1)
unfolding block_of
steps-fine bytes before r at count found e =
    let p = fine_count at (repeat_free found.block) (length found.block) count e in
    rw (found.is, p.0, length-repeated r.passes found.block, p.1) refl
