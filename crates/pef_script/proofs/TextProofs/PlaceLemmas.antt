-- Cuts, lines and words by their numbers, and names that are nearly the same.
use Rattle.std.proofs.Common.{◌≡◌, ℕ, zero, suc, ◌+◌, ◌-◌, ◌<◌, ◌≤◌, ◌==◌, Bool, true, false, cond, List, [], ◌∷◌, Option, None, Some, length, drop, take, get_or, option_map, slice_get, refl, ap, ◌∙◌, arith, length-append}
use Rattle.std.specs.Prelude.{if◌then◌else◌}
use Rattle.std.specs.List.{position_from}
use Rattle.std.specs.Option.{option_map_or}
use Rattle.std.proofs.lemmas.List.{length-take}
use Rattle.pef_script.specs.declared.text.fault.LineFault.{LineFault}
use Rattle.pef_script.specs.Text.Earlier.{earlier_of, is_about}
use Rattle.pef_script.proofs.TextProofs.ListLemmas.{position_from-under}
use Rattle.pef_lines.specs.Lines.{cut_at, lines_of, longer_first, parts_of}
use Rattle.pef_lines.proofs.Laws.{cut_at-parts, lines_of-cut, lines_of-last, words_of-some}
use Rattle.pef_lines.specs.Cursor.{none_left, words_of}
use Rattle.pef_script.specs.Text.Near.{past_common}
use Rattle.pef_script.specs.Text.Places.{after_cuts, first_part, line_in, text_from, word_at, word_in}

-- what is after a cut
abbrev back : Option (List ℕ × List ℕ) → List ℕ
back None = []
back (Some p) = p.1

pub after_cuts-none : (byte : ℕ) (bytes : List ℕ) → after_cuts byte 0 bytes ≡ bytes
unfolding after_cuts
after_cuts-none byte bytes = refl

-- after the first cut
pub after_cuts-next : (byte n : ℕ) (bytes part behind : List ℕ) → cut_at byte bytes ≡ Some (part, behind) → after_cuts byte (suc n) bytes ≡ after_cuts byte n behind
unfolding after_cuts
after_cuts-next byte n [] part behind cut = absurd (cc)
after_cuts-next byte n (b ∷ bytes) part behind cut = by (b == byte) (cut_at byte bytes) cut (after_cuts-next byte n bytes)
  where
    by : (here : Bool) (later : Option (List ℕ × List ℕ)) → cond {A = Option (List ℕ × List ℕ)} here (Some ([], bytes)) (option_map (λ p. (b ∷ p.0, p.1)) later) ≡ Some (part, behind)
        → ((l r : List ℕ) → later ≡ Some (l, r) → after_cuts byte (suc n) bytes ≡ after_cuts byte n r)
        → cond here (after_cuts byte n bytes) (after_cuts byte (suc n) bytes) ≡ after_cuts byte n behind
    by true later cut others = (let same : bytes ≡ behind = ap back cut in ap (after_cuts byte n) same)
    by false None cut others = absurd (cc)
    by false (Some p) cut others = (let same : p.1 ≡ behind = ap back cut in others p.0 p.1 refl ∙ ap (after_cuts byte n) same)

-- nothing is left if there is no cut
pub after_cuts-last : (byte n : ℕ) (bytes : List ℕ) → cut_at byte bytes ≡ None → after_cuts byte (suc n) bytes ≡ []
unfolding after_cuts
after_cuts-last byte n [] none = refl
after_cuts-last byte n (b ∷ bytes) none = by (b == byte) (cut_at byte bytes) none (after_cuts-last byte n bytes)
  where
    by : (here : Bool) (later : Option (List ℕ × List ℕ)) → cond {A = Option (List ℕ × List ℕ)} here (Some ([], bytes)) (option_map (λ p. (b ∷ p.0, p.1)) later) ≡ None
        → (later ≡ None → after_cuts byte (suc n) bytes ≡ [])
        → cond here (after_cuts byte n bytes) (after_cuts byte (suc n) bytes) ≡ []
    by true later none others = absurd (cc)
    by false None none others = others refl
    by false (Some p) none others = absurd (cc)

-- names so far the same

-- and no longer

pub past_common-stop : (one other : List ℕ) (i : ℕ) → i < length one → i < length other → (get_or one i 0 == get_or other i 0) ≡ false → past_common (drop i one) (drop i other) ≡ (drop i one, drop i other)
past_common-stop [] other i under below unlike = absurd (omega (arith, under))
past_common-stop (x ∷ one) [] i under below unlike = absurd (omega (arith, below))
past_common-stop (x ∷ one) (y ∷ other) zero under below unlike = rw unlike refl
past_common-stop (x ∷ one) (y ∷ other) (suc i) under below unlike = past_common-stop one other i (omega (arith, under)) (omega (arith, below)) unlike

pub past_common-end : (one : List ℕ) → past_common one [] ≡ (one, [])
past_common-end [] = refl
past_common-end (x ∷ one) = refl

-- a part that is cut off is no longer than the whole
pub part-shorter : (byte : ℕ) (bytes part behind : List ℕ) → cut_at byte bytes ≡ Some (part, behind) → length part ≤ length bytes
part-shorter byte bytes part behind cut =
    let whole = ap length (cut_at-parts byte bytes part behind cut) in
    let parts = length-append part (byte ∷ behind) in
    omega (arith, whole, parts)

-- the first line
pub first_line : (text : List ℕ) → slice_get (lines_of text) 0 ≡ Some (first_part 0x0A text)
first_line text = by (cut_at 0x0A text) refl
  where
    by : (cut : Option (List ℕ × List ℕ)) → cut_at 0x0A text ≡ cut → slice_get (lines_of text) 0 ≡ Some (first_part 0x0A text)
    by None is = rw (lines_of-last text is, is) refl
    by (Some p) is = rw (lines_of-cut text p.0 p.1 is, is) refl

-- the lines after it
pub next_line : (line : List ℕ) (lines : List (List ℕ)) (k : ℕ) → 0 < k → slice_get (line ∷ lines) k ≡ slice_get lines (k - 1)
next_line line lines zero some = absurd (omega (arith, some))
next_line line lines (suc k) some = (let e : suc k - 1 ≡ k = omega arith in rw e refl)

pub no_line : (line : List ℕ) (k : ℕ) → 0 < k → slice_get (line ∷ []) k ≡ None
no_line line zero some = absurd (omega (arith, some))
no_line line (suc k) some = refl

-- the first of some lines for which a test holds

module _ (test : List ℕ → Bool) where
  pub first_holds : (line : List ℕ) (lines : List (List ℕ)) (k at : ℕ) → 0 < k → test line ≡ true → position_from test at (take k (line ∷ lines)) ≡ Some at
  first_holds line lines zero at some holds = absurd (omega (arith, some))
  first_holds line lines (suc k) at some holds = rw holds refl

  pub first_later : (line : List ℕ) (lines : List (List ℕ)) (k at : ℕ) → 0 < k → test line ≡ false → position_from test at (take k (line ∷ lines)) ≡ position_from test (at + 1) (take (k - 1) lines)
  first_later line lines zero at some holds = absurd (omega (arith, some))
  first_later line lines (suc k) at some fails = (let e : suc k - 1 ≡ k = omega arith in rw (e, fails) refl)

  pub none_of_last : (line : List ℕ) (k at : ℕ) → 0 < k → test line ≡ false → position_from test at (take k (line ∷ [])) ≡ None
  none_of_last line zero at some fails = absurd (omega (arith, some))
  none_of_last line (suc zero) at some fails = rw fails refl
  none_of_last line (suc (suc k)) at some fails = rw fails refl

-- words and spaces

count-longer : (b : ℕ) (parts : List (List ℕ)) → none_left parts ≡ false → length (longer_first b parts) ≡ length parts
count-longer b [] some = absurd (cc)
count-longer b (part ∷ parts) some = refl

-- each space is before one more word
pub count-more : (line : List ℕ) (i : ℕ) → i < length line → (if get_or line i 0 == 0x20 then 1 else 0) + length (words_of (drop (i + 1) line)) ≡ length (words_of (drop i line))
count-more [] i under = absurd (omega (arith, under))
count-more (b ∷ line) zero under = by (b == 0x20)
  where
    by : (space : Bool) → cond space 1 0 + length (parts_of 0x20 line) ≡ length (cond space ([] ∷ parts_of 0x20 line) (longer_first b (parts_of 0x20 line)))
    by true = omega arith
    by false = (let same = count-longer b (parts_of 0x20 line) (words_of-some line) in omega (arith, same))
count-more (b ∷ line) (suc i) under =
    let next : suc i + 1 ≡ suc (i + 1) = omega arith in
    rw next (count-more line i (omega (arith, under)))

-- places are inside what they are places of

after_cuts-shorter : (byte n : ℕ) (bytes : List ℕ) → length (after_cuts byte n bytes) ≤ length bytes
unfolding after_cuts
after_cuts-shorter byte zero bytes = omega arith
after_cuts-shorter byte (suc n) [] = omega arith
after_cuts-shorter byte (suc n) (b ∷ bytes) = by (b == byte) (after_cuts-shorter byte n bytes) (after_cuts-shorter byte (suc n) bytes)
  where
    by : (here : Bool) → length (after_cuts byte n bytes) ≤ length bytes → length (after_cuts byte (suc n) bytes) ≤ length bytes → length (cond here (after_cuts byte n bytes) (after_cuts byte (suc n) bytes)) ≤ length (b ∷ bytes)
    by true one other = omega (arith, one)
    by false one other = omega (arith, other)

first_part-shorter : (byte : ℕ) (bytes : List ℕ) → length (first_part byte bytes) ≤ length bytes
first_part-shorter byte bytes = by (cut_at byte bytes) refl
  where
    by : (cut : Option (List ℕ × List ℕ)) → cut_at byte bytes ≡ cut → length (option_map_or (λ (p : List ℕ × List ℕ). p.0) cut bytes) ≤ length bytes
    by None is = omega arith
    by (Some p) is = part-shorter byte bytes p.0 p.1 is

pub word_inside : (text : List ℕ) (line k : ℕ) → ((word_at text line k).from ≤ (word_at text line k).to) × ((word_at text line k).to ≤ length text)
unfolding word_at word_in line_in
word_inside text line k =
    let rest = text_from text line in
    let here = first_part 0x0A rest in
    let left = after_cuts 0x20 k here in
    let a = after_cuts-shorter 0x0A (line - 1) text in
    let b = first_part-shorter 0x0A rest in
    let c = after_cuts-shorter 0x20 k here in
    let d = first_part-shorter 0x20 left in
    (omega arith, omega (arith, a, b, c, d))

position_from-least : (test : List ℕ → Bool) (at : ℕ) (lines : List (List ℕ)) (k : ℕ) → position_from test at lines ≡ Some k → at ≤ k
position_from-least test at [] k is = absurd (cc)
position_from-least test at (line ∷ lines) k is = by (test line) is (position_from-least test (at + 1) lines k)
  where
    by : (here : Bool) → cond here (Some at) (position_from test (at + 1) lines) ≡ Some k → (position_from test (at + 1) lines ≡ Some k → at + 1 ≤ k) → at ≤ k
    by true is others = (let e : at ≡ k = cc in omega arith)
    by false is others = (let more = others is in omega (arith, more))

pub earlier_before : (text : List ℕ) (line : ℕ) (fault : LineFault) (k : ℕ) → earlier_of text line fault ≡ Some k → (1 ≤ k) × (k < line)
unfolding earlier_of
earlier_before text line fault k is =
    let test = is_about fault (line_in text line) in
    let before = take (line - 1) (lines_of text) in
    let least = position_from-least test 1 before k is in
    let under = position_from-under test 1 before k is in
    let few : length before ≤ line - 1 = (let all = length-take (line - 1) (lines_of text) in omega (arith, all)) in
    (least, omega (arith, under, few, least))
