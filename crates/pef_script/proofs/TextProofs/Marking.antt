-- Marks find the overlaps of fixups.
use Rattle.std.proofs.Common.{◌≡◌, ◌≢◌, ℕ, zero, suc, ◌+◌, ◌-◌, ◌*◌, ◌%◌, ◌<◌, ◌≤◌, ◌⊎◌, Bool, true, false, ◌&&◌, ◌||◌, List, [], ◌∷◌, ◌++◌, length, set, refl, sym, ap, ◌∙◌, inl, inr, arith}
use Rattle.std.specs.Prelude.{◌==◌, nat_lt}
use Rattle.std.specs.List.{AllByRecursion, list_any}
use Rattle.std.proofs.lemmas.Bool.Decides.{eqb_tells, leb_tells, nat_tests}
use Rattle.std.proofs.lemmas.List.{get_or-set_other, get_or-set_same}
use Rattle.std.proofs.lemmas.List.Folds.{list_any-append}
use Rattle.pef_words.proofs.Laws.Lists.{all-append}
use Rattle.pef_reloc.specs.declared.fixup.Fixup.{Fixup}
use Rattle.pef_script.specs.Text.Contents.{meets, overlaps}
use Rattle.pef_script.specs.Text.Kept.Marks.{AreMarked, IsMarked, any_lead, lead_at, leads_overlap, next_four}
use Rattle.pef_script.proofs.TextProofs.Placing.{both_unmet}

-- an offset is in the four bytes before its next four
before_next : (offset : ℕ) → (offset < 4 * next_four offset) × (4 * next_four offset ≤ offset + 4)
before_next offset = (omega arith, omega arith)

-- and as far before it as its remainder says
lead_is : (offset : ℕ) → offset + (4 - offset % 4) ≡ 4 * next_four offset
lead_is offset = omega arith

or_true : (a b : Bool) → b ≡ true → (a || b) ≡ true
or_true true b is = refl
or_true false b is = is

which_true : (a b : Bool) → (a || b) ≡ true → (a ≡ true) ⊎ (b ≡ true)
which_true true b is = inl refl
which_true false b is = inr is

both_true : (a b : Bool) → (a && b) ≡ true → (a ≡ true) × (b ≡ true)
both_true true b is = (refl, is)
both_true false b is = absurd (cc)

-- the first of some multiples, and those after it
pub any_lead_next : (leads : List ℕ) (i to : ℕ) → i < to → any_lead leads i (to - i) ≡ (nat_lt 0 (lead_at leads i) || any_lead leads (i + 1) (to - (i + 1)))
any_lead_next leads i to below = (let one : to - i ≡ suc (to - (i + 1)) = omega arith in ap (any_lead leads i) one)

-- of multiples without marks, each has none
none_marked : (leads : List ℕ) (i n k : ℕ) → any_lead leads i n ≡ false → i ≤ k → k < i + n → lead_at leads k ≡ 0
none_marked leads i zero k none from below = absurd (omega arith)
none_marked leads i (suc n) k none from below =
    let unmet = both_unmet (nat_lt 0 (lead_at leads i)) (any_lead leads (i + 1) n) none in
    elim (leb_tells (suc i) k) [
      | inl past ↦ none_marked leads (i + 1) n k unmet.1 (let p = past.1 in omega (arith, p)) (omega arith)
      | inr here ↦ (let first = unmet.0 in let same : k ≡ i = (let h = here.1 in omega (arith, h)) in rw same (grind (arith, nat_tests, first)))
    ]

-- of multiples with a mark, one has it
some_marked : (leads : List ℕ) (i n : ℕ) → any_lead leads i n ≡ true → (k : ℕ) × (i ≤ k) × (k < i + n) × (0 < lead_at leads k)
some_marked leads i zero some = absurd (cc)
some_marked leads i (suc n) some =
    elim (which_true (nat_lt 0 (lead_at leads i)) (any_lead leads (i + 1) n) some) [
      | inl here ↦ (i, omega arith, omega arith, grind (arith, nat_tests, here))
      | inr later ↦ (let found = some_marked leads (i + 1) n later in let from = found.1 in let below = found.2 in (found.0, omega (arith, from), omega (arith, below), found.3))
    ]

unmet_after : (offset count : ℕ) (f : Fixup) → offset + 4 * count ≤ f.offset → meets offset count f ≡ false
unmet_after offset count f after = grind (arith, nat_tests)

unmet_before : (offset count : ℕ) (f : Fixup) → f.offset + 4 ≤ offset → meets offset count f ≡ false
unmet_before offset count f before = grind (arith, nat_tests)

met_if : (offset count : ℕ) (f : Fixup) → offset < f.offset + 4 → f.offset < offset + 4 * count → meets offset count f ≡ true
met_if offset count f reaches before = grind (arith, nat_tests)

-- the tests of the marks before some words, among them and in the last of them
abbrev marked_before : List ℕ → ℕ → Bool
marked_before leads offset = nat_lt 0 (lead_at leads (next_four offset - 1)) && nat_lt (lead_at leads (next_four offset - 1)) (4 - offset % 4)

abbrev marked_after : List ℕ → ℕ → ℕ → Bool
marked_after leads offset count = nat_lt (4 - offset % 4) (lead_at leads (next_four offset + count))

-- the word of a fixup that has its mark is apart from words that no mark says it overlaps
unmet : (leads : List ℕ) (offset count : ℕ) (f : Fixup) → IsMarked leads f → leads_overlap leads offset count ≡ false → meets offset count f ≡ false
unmet leads offset count f marked none =
    let outer = both_unmet (marked_before leads offset) (any_lead leads (next_four offset) count || marked_after leads offset count) none in
    let inner = both_unmet (any_lead leads (next_four offset) count) (marked_after leads offset count) outer.1 in
    let near = before_next offset in
    let mine = before_next f.offset in
    let lead = lead_is offset in
    elim (leb_tells (next_four offset) (next_four f.offset)) [
      | inr before ↦ unmet_before offset count f (
          elim (leb_tells (next_four f.offset + 2) (next_four offset)) as (λ _. f.offset + 4 ≤ offset) [
            | inl far ↦ (let far = far.1 in omega (arith, far, near, mine))
            | inr next ↦
                (let same : next_four f.offset ≡ next_four offset - 1 = (let next = next.1 in let before = before.1 in omega (arith, next, before)) in
                let its = ap (lead_at leads) same in
                let first = outer.0 in
                let some : 0 < lead_at leads (next_four offset - 1) = omega (arith, its, marked, mine) in
                let least : 4 - offset % 4 ≤ lead_at leads (next_four offset - 1) = grind (arith, nat_tests, first, some) in
                omega (arith, its, marked, least, lead, same))
          ])
      | inl after ↦
          elim (leb_tells (suc (next_four f.offset)) (next_four offset + count)) [
            | inl among ↦ absurd (let none = none_marked leads (next_four offset) count (next_four f.offset) inner.0 after.1 (let among = among.1 in omega (arith, among)) in omega (arith, none, marked, mine))
            | inr behind ↦ unmet_after offset count f (
                elim (leb_tells (suc (next_four offset + count)) (next_four f.offset)) as (λ _. offset + 4 * count ≤ f.offset) [
                  | inl far ↦ (let far = far.1 in omega (arith, far, near, mine))
                  | inr last ↦
                      (let same : next_four f.offset ≡ next_four offset + count = (let last = last.1 in let behind = behind.1 in omega (arith, last, behind)) in
                      let its = ap (lead_at leads) same in
                      let third = inner.1 in
                      let most : lead_at leads (next_four offset + count) ≤ 4 - offset % 4 = grind (arith, nat_tests, third) in
                      omega (arith, its, marked, most, lead, same))
                ])
          ]
    ]

all_unmet : (leads : List ℕ) (offset count : ℕ) (fixups : List Fixup) → AllByRecursion (IsMarked leads) fixups → leads_overlap leads offset count ≡ false → overlaps fixups offset count ≡ false
all_unmet leads offset count [] marked none = refl
all_unmet leads offset count (f ∷ fixups) marked none = rw (unmet leads offset count f marked.0 none) (all_unmet leads offset count fixups marked.1 none)

-- the mark at i is that of a fixup
some_met : (leads : List ℕ) (offset count i : ℕ) (fixups : List Fixup) → AllByRecursion (IsMarked leads) fixups → list_any (λ (f : Fixup). next_four f.offset == i) fixups ≡ true → ((f : Fixup) → IsMarked leads f → next_four f.offset ≡ i → meets offset count f ≡ true) → overlaps fixups offset count ≡ true
some_met leads offset count i [] marked some met = absurd (cc)
some_met leads offset count i (f ∷ fixups) marked some met =
    elim (eqb_tells (next_four f.offset) i) [
      | inl here ↦ rw (met f marked.0 here.1) refl
      | inr other ↦ or_true (meets offset count f) (overlaps fixups offset count) (some_met leads offset count i fixups marked.1 (rw other.0 at some) met)
    ]

-- marks tell whether a fixup overlaps some words
pub overlaps_is : (leads : List ℕ) (fixups : List Fixup) (offset count : ℕ) → AreMarked leads fixups → leads_overlap leads offset count ≡ overlaps fixups offset count
overlaps_is leads fixups offset count marks = by (leads_overlap leads offset count) refl
  where
    near : (offset < 4 * next_four offset) × (4 * next_four offset ≤ offset + 4)
    near = before_next offset

    lead : offset + (4 - offset % 4) ≡ 4 * next_four offset
    lead = lead_is offset

    met : (i : ℕ) → 0 < lead_at leads i → ((f : Fixup) → IsMarked leads f → next_four f.offset ≡ i → meets offset count f ≡ true) → true ≡ overlaps fixups offset count
    met i some meets = sym (some_met leads offset count i fixups marks.each (marks.only i some) meets)

    by : (b : Bool) → leads_overlap leads offset count ≡ b → b ≡ overlaps fixups offset count
    by false none = sym (all_unmet leads offset count fixups marks.each none)
    by true some =
        elim (which_true (marked_before leads offset) (any_lead leads (next_four offset) count || marked_after leads offset count) some) [
          | inl before ↦
              (let tests = both_true (nat_lt 0 (lead_at leads (next_four offset - 1))) (nat_lt (lead_at leads (next_four offset - 1)) (4 - offset % 4)) before in
              let here : 0 < lead_at leads (next_four offset - 1) = (let t = tests.0 in grind (arith, nat_tests, t)) in
              let less : lead_at leads (next_four offset - 1) < 4 - offset % 4 = (let t = tests.1 in grind (arith, nat_tests, t)) in
              met (next_four offset - 1) here (λ f marked same.
              let its = ap (lead_at leads) same in
              let mine = before_next f.offset in
              met_if offset count f (omega (arith, its, marked, mine, less, lead, same)) (omega (arith, its, marked, mine, near, same))))
          | inr others ↦
              elim (which_true (any_lead leads (next_four offset) count) (marked_after leads offset count) others) [
                | inl among ↦
                    (let found = some_marked leads (next_four offset) count among in
                    let from = found.1 in
                    let below = found.2 in
                    met found.0 found.3 (λ f marked same.
                    let mine = before_next f.offset in
                    met_if offset count f (omega (arith, mine, near, from, same)) (omega (arith, mine, near, below, same))))
                | inr after ↦
                    (let more : 4 - offset % 4 < lead_at leads (next_four offset + count) = grind (arith, nat_tests, after) in
                    met (next_four offset + count) (omega (arith, more)) (λ f marked same.
                    let its = ap (lead_at leads) same in
                    let mine = before_next f.offset in
                    met_if offset count f (omega (arith, mine, near, same)) (omega (arith, its, marked, more, lead, same))))
              ]
        ]

-- marks that are the same everywhere
each_same : (leads others : List ℕ) (fixups : List Fixup) → ((i : ℕ) → lead_at others i ≡ lead_at leads i) → AllByRecursion (IsMarked leads) fixups → AllByRecursion (IsMarked others) fixups
each_same leads others [] same marked = tt
each_same leads others (f ∷ fixups) same marked =
    (ap (λ n. f.offset + n) (same (next_four f.offset)) ∙ marked.0, each_same leads others fixups same marked.1)

pub marked_same : (leads others : List ℕ) (fixups : List Fixup) → ((i : ℕ) → lead_at others i ≡ lead_at leads i) → AreMarked leads fixups → AreMarked others fixups
marked_same leads others fixups same marks = record {
  each = each_same leads others fixups same marks.each;
  only = λ i some. marks.only i (let is = same i in omega (arith, some, is));
}

-- a fixup that is apart from another has another next four
apart_next : (f new : Fixup) → meets new.offset 1 f ≡ false → next_four f.offset ≢ next_four new.offset
apart_next f new apart same =
    let mine = before_next f.offset in
    let near = before_next new.offset in
    let met = met_if new.offset 1 f (omega (arith, mine, near, same)) (omega (arith, mine, near, same)) in
    absurd (cc)

each_more : (leads : List ℕ) (fixups : List Fixup) (new : Fixup) (lead : ℕ) → AllByRecursion (IsMarked leads) fixups → overlaps fixups new.offset 1 ≡ false → AllByRecursion (IsMarked (set leads (next_four new.offset) lead)) fixups
each_more leads [] new lead marked free = tt
each_more leads (f ∷ fixups) new lead marked free =
    let apart = both_unmet (meets new.offset 1 f) (overlaps fixups new.offset 1) free in
    let kept = get_or-set_other leads (next_four new.offset) (next_four f.offset) lead 0 (apart_next f new apart.0) in
    (ap (λ n. f.offset + n) kept ∙ marked.0, each_more leads fixups new lead marked.1 apart.1)

-- with the mark of one more fixup
pub marked_more : (leads : List ℕ) (fixups : List Fixup) (new : Fixup) → AreMarked leads fixups → overlaps fixups new.offset 1 ≡ false → next_four new.offset < length leads → AreMarked (set leads (next_four new.offset) (4 - new.offset % 4)) (fixups ++ new ∷ [])
marked_more leads fixups new marks free there =
    let here = get_or-set_same leads (next_four new.offset) (4 - new.offset % 4) 0 there in
    let lead = lead_is new.offset in
    record {
      each = all-append (IsMarked (set leads (next_four new.offset) (4 - new.offset % 4))) fixups (new ∷ []) (each_more leads fixups new (4 - new.offset % 4) marks.each free) (ap (λ n. new.offset + n) here ∙ lead, tt);
      only = λ i some.
          let parts = list_any-append (λ (f : Fixup). next_four f.offset == i) fixups (new ∷ []) in
          elim (eqb_tells (next_four new.offset) i) as (λ _. list_any (λ (f : Fixup). next_four f.offset == i) (fixups ++ new ∷ []) ≡ true) [
            | inl same ↦ rw (parts, same.0) (or_true (list_any (λ (f : Fixup). next_four f.offset == i) fixups) true refl)
            | inr other ↦
                (let kept = get_or-set_other leads (next_four new.offset) i (4 - new.offset % 4) 0 (λ e. other.1 (sym e)) in
                let before = marks.only i (omega (arith, some, kept)) in
                rw (parts, before) refl)
          ];
    }
