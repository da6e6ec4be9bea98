-- Rows of labels for some fixups, from the last fixup to the first. The labels are feasible and reached.
use Rattle.std.proofs.Common.{◌≡◌, ℕ, suc, ◌+◌, ◌-◌, ◌*◌, ◌/◌, ◌%◌, ◌<◌, ◌≤◌, inl, inr, true, false, List, [], ◌∷◌, length, map, slice_index, refl, ap, ap₂, sym, ◌∙◌, subst, arith}
use Rattle.std.specs.Prelude.{slice_index_or}
use Rattle.std.specs.List.{AllByRecursion, range_with_len}
use Rattle.std.proofs.lemmas.Bool.{lt-ltb}
use Rattle.std.proofs.lemmas.List.FromFn.{get_or-map-range_with_len, length-map-range_with_len}
use Rattle.std.proofs.lemmas.Nat.{div-mul-add, mod-mul-add}
use Rattle.pef_reloc.specs.declared.fixup.Fixup.{Fixup}
use Rattle.pef_reloc.specs.declared.instr.Instr.TheVariants.{SmSetSectC, SmSetSectD}
use Rattle.pef_reloc.specs.Deliveries.{index_past}
use Rattle.pef_reloc.specs.Fixups.{base_fits, fixup_fits}
use Rattle.pef_reloc.specs.Steps.{State, next_state}
use Rattle.pef_reloc.proofs.Laws.{fixup_fits-parts}
use Rattle.pef_cert.specs.Labels.{Labels, class_of}
use Rattle.pef_cert.specs.Extension.{extension_at}
use Rattle.pef_cert.specs.Feasible.{FeasibleAt, FeasibleFrom, label_at}
use Rattle.pef_cert.specs.LabelTests.{SetsHold, base_test}
use Rattle.pef_cert.specs.Valid.{labels_in}
use Rattle.pef_cert.proofs.Laws.{Numbers, RegisteredBase, class_of-below, extension-here, sets_falls, tested}
use Rattle.pef_plan.specs.Reached.{ReachedAt, ReachedFrom}
use Rattle.pef_plan.specs.Runs.Tables.{place_of}
use Rattle.pef_plan.proofs.ClimbedTests.{direct-climbed, direct_value}
use Rattle.pef_plan.proofs.ClosedLabels.{closed, closed-below, closed-c_line, closed-d_line, closed-from}
use Rattle.pef_plan.proofs.FailedTests.{failed-test}
use Rattle.pef_plan.proofs.RunsProofs.PlaceLemmas.{place_under}
use Rattle.pef_plan.proofs.SameExtension.{SameTo, extension_same, over, same_fewer}

-- labels g at a fixup and later ones. The labels at the later ones are also h, and those at the fixup are computed
-- from h
module _ (rs : List ℕ) (g h : ℕ → ℕ → ℕ → ℕ) (index : ℕ) (f : Fixup) (rest : List Fixup) (same : SameTo (length rest) g h) (is : (c d : ℕ) → c < length rs + 1 → d < length rs + 1 → g (length (f ∷ rest)) c d ≡ closed (length rs) (direct_value (over rs h) index f rest) c d) where
  -- the least halfwords if the first instruction adds at the fixup
  abbrev direct : ℕ → ℕ → ℕ
  direct = direct_value (over rs h) index f rest

  behind_same : (left : List Fixup) (s : State) → length left ≤ length rest → extension_at (over rs g) left s ≡ extension_at (over rs h) left s
  behind_same left s few = extension_same rs g h s.position (class_of rs s.c) (class_of rs s.d) left (same_fewer (length left) (length rest) g h few same)

  label_is : (s : State) → label_at (over rs g) (f ∷ rest) s ≡ closed (length rs) direct (class_of rs s.c) (class_of rs s.d)
  label_is s = is (class_of rs s.c) (class_of rs s.d) (class_of-below (over rs g) s.c) (class_of-below (over rs g) s.d)

  here_is : (s : State) → s.position ≡ f.offset → extension_at (over rs g) (f ∷ rest) s ≡ closed (length rs) direct (class_of rs s.c) (class_of rs s.d)
  here_is s at = extension-here (over rs g) f rest s.position (class_of rs s.c) (class_of rs s.d) at ∙ label_is s

  sets_hold : SetsHold (over rs g) (length (f ∷ rest))
  sets_hold = record {
    c_line = λ c e d under_c under_e under_d.
        let low = closed-c_line (length rs) direct c e d in
        let here = is c d under_c under_d in
        let there = is e d under_e under_d in
        omega (arith, low, here, there);
    d_line = λ c d e under_c under_d under_e.
        let low = closed-d_line (length rs) direct c d e in
        let here = is c d under_c under_d in
        let there = is c e under_c under_e in
        omega (arith, low, here, there);
  }

  solved_feasible : FeasibleAt (over rs g) index f rest
  solved_feasible = record {
    sets = λ x s at flat sets. sets_falls (over rs g) index f rest x s sets_hold at sets;
    adds = λ x s left at flat delivers shorter.
        let c = class_of rs s.c in
        let d = class_of rs s.d in
        let value = label_at (over rs g) (f ∷ rest) s in
        let low = closed-below (length rs) direct c d (class_of-below (over rs g) s.c) (class_of-below (over rs g) s.d) in
        let met = (direct-climbed (over rs h) index f rest c d).below value (omega (arith, low, label_is s)) in
        let most = tested (over rs h) value x s f rest left (subst (λ i. base_test (over rs h) value i f rest c d f.base ≡ true) (sym at.index_is) met) at.position flat delivers.is shorter in
        let behind = behind_same left (next_state x s) (omega (arith, shorter)) in
        omega (arith, most, behind);
  }

  solved_reached : Numbers (over rs g) → base_fits f.base ≡ true → AllByRecursion (λ (x : Fixup). RegisteredBase rs x.base) (f ∷ rest) → ReachedAt (over rs g) index f rest
  solved_reached numbers fits counts s at =
      let c = class_of rs s.c in
      let d = class_of rs s.d in
      let here = here_is s at.position in
      elim (closed-from (length rs) direct c d) [
        | inl same ↦
            (let fails = subst (λ i. base_test (over rs h) (suc (direct c d)) i f rest c d f.base ≡ false) (sym at.index_is) (direct-climbed (over rs h) index f rest c d).next in
            let led = failed-test (over rs h) s f rest (direct c d) at.position fits counts fails in
            let behind = behind_same led.left (next_state led.instr s) led.shorter in
            let falls = led.falls in
            record { instr = led.instr; left = led.left; flat = led.flat; delivers = record { is = led.parts }; falls = omega (arith, falls, behind, here, same) })
        | inr set ↦ elim set [
          | inl by_c ↦
              (let to = numbers.of by_c.0 by_c.1 in
              let next = here_is (record s { c = to.number }) at.position in
              let there = ap (λ e. closed (length rs) direct e d) to.is in
              let low = by_c.2 in
              record { instr = SmSetSectC to.number; left = f ∷ rest; flat = lt-ltb to.number 512 to.small; delivers = record { is = refl }; falls = omega (arith, here, next, there, low) })
          | inr by_d ↦
              (let to = numbers.of by_d.0 by_d.1 in
              let next = here_is (record s { d = to.number }) at.position in
              let there = ap (λ e. closed (length rs) direct c e) to.is in
              let low = by_d.2 in
              record { instr = SmSetSectD to.number; left = f ∷ rest; flat = lt-ltb to.number 512 to.small; delivers = record { is = refl }; falls = omega (arith, here, next, there, low) })
        ]
      ]

-- a row with a number for each pair of classes
row_of : ℕ → (ℕ → ℕ → ℕ) → List ℕ
row_of count numbers = map (λ i. numbers (i / count) (i % count)) (range_with_len 0 (count * count))

length-row_of : (count : ℕ) (numbers : ℕ → ℕ → ℕ) → length (row_of count numbers) ≡ count * count
unfolding row_of
length-row_of count numbers = length-map-range_with_len (λ i. numbers (i / count) (i % count)) 0 (count * count)

number-row_of : (count : ℕ) (numbers : ℕ → ℕ → ℕ) (c d : ℕ) → c < count → d < count → slice_index (row_of count numbers) (place_of count c d) ≡ numbers c d
unfolding row_of
number-row_of count numbers c d under_c under_d =
    get_or-map-range_with_len (λ i. numbers (i / count) (i % count)) 0 (count * count) (place_of count c d) (place_of count c d) 0 (place_under count c d under_c under_d) (omega arith)
    ∙ ap₂ numbers (div-mul-add c count d under_d) (mod-mul-add c count d under_d)

-- the rows of some fixups, with the import index at the first
pub rows_for : List ℕ → ℕ → List Fixup → List (List ℕ)
rows_for rs index [] = row_of (length rs + 1) (λ c d. 0) ∷ []
rows_for rs index (f ∷ rest) =
    row_of (length rs + 1) (closed (length rs) (direct_value (labels_in rs (rows_for rs (index_past f.base index) rest) (length rest)) index f rest)) ∷ rows_for rs (index_past f.base index) rest

pub length-rows_for : (rs : List ℕ) (index : ℕ) (fixups : List Fixup) → length (rows_for rs index fixups) ≡ length fixups + 1
unfolding rows_for
length-rows_for rs index [] = refl
length-rows_for rs index (f ∷ rest) = (let more = length-rows_for rs (index_past f.base index) rest in omega (arith, more))

pub wide-rows_for : (rs : List ℕ) (index : ℕ) (fixups : List Fixup) → AllByRecursion (λ row. length row ≡ (length rs + 1) * (length rs + 1)) (rows_for rs index fixups)
unfolding rows_for
wide-rows_for rs index [] = (length-row_of (length rs + 1) (λ c d. 0), tt)
wide-rows_for rs index (f ∷ rest) =
    (length-row_of (length rs + 1) (closed (length rs) (direct_value (labels_in rs (rows_for rs (index_past f.base index) rest) (length rest)) index f rest)), wide-rows_for rs (index_past f.base index) rest)

-- the labels for one more fixup are those of the first row, and the others those of the other rows
abbrev labels_of_rows : List ℕ → List (List ℕ) → ℕ → ℕ → ℕ → ℕ → ℕ
labels_of_rows rs rows count = (labels_in rs rows count).label

label_first : (rs : List ℕ) (row : List ℕ) (rows : List (List ℕ)) (n c d : ℕ) → labels_of_rows rs (row ∷ rows) (suc n) (suc n) c d ≡ slice_index row (place_of (length rs + 1) c d)
label_first rs row rows n c d = (let at : suc n - suc n ≡ 0 = omega arith in ap (λ i. slice_index (slice_index_or (row ∷ rows) i []) (place_of (length rs + 1) c d)) at)

label_later : (rs : List ℕ) (row : List ℕ) (rows : List (List ℕ)) (n left c d : ℕ) → left ≤ n → labels_of_rows rs (row ∷ rows) (suc n) left c d ≡ labels_of_rows rs rows n left c d
label_later rs row rows n left c d under = (let at : suc n - left ≡ suc (n - left) = omega (arith, under) in ap (λ i. slice_index (slice_index_or (row ∷ rows) i []) (place_of (length rs + 1) c d)) at)

-- no halfwords are needed after the last fixup
pub last-rows_for : (rs : List ℕ) (index : ℕ) (fixups : List Fixup) (c d : ℕ) → c < length rs + 1 → d < length rs + 1 → labels_of_rows rs (rows_for rs index fixups) (length fixups) 0 c d ≡ 0
unfolding rows_for
last-rows_for rs index [] c d under_c under_d = number-row_of (length rs + 1) (λ x y. 0) c d under_c under_d
last-rows_for rs index (f ∷ rest) c d under_c under_d =
    label_later rs (row_of (length rs + 1) (closed (length rs) (direct_value (labels_in rs (rows_for rs (index_past f.base index) rest) (length rest)) index f rest))) (rows_for rs (index_past f.base index) rest) (length rest) 0 c d (omega arith)
    ∙ last-rows_for rs (index_past f.base index) rest c d under_c under_d

-- labels that are feasible and reached at each of some fixups
pub record Solved (l : Labels) (index : ℕ) (fixups : List Fixup) : Type 0 where
  pub feasible : FeasibleFrom l index fixups
  pub reached : ReachedFrom l index fixups

pub solved : (rs : List ℕ) (g : ℕ → ℕ → ℕ → ℕ) (index : ℕ) (fixups : List Fixup) → Numbers (over rs g) → AllByRecursion (λ (f : Fixup). fixup_fits f ≡ true) fixups → AllByRecursion (λ (f : Fixup). RegisteredBase rs f.base) fixups → SameTo (length fixups) g (labels_of_rows rs (rows_for rs index fixups) (length fixups)) → Solved (over rs g) index fixups
unfolding rows_for
solved rs g index [] numbers fit counts same = record { feasible = tt; reached = tt }
solved rs g index (f ∷ rest) numbers fit counts same =
    let rows = rows_for rs (index_past f.base index) rest in
    let h = labels_of_rows rs rows (length rest) in
    let numbers_here = closed (length rs) (direct_value (over rs h) index f rest) in
    let row = row_of (length rs + 1) numbers_here in
    let later : SameTo (length rest) g h = λ left c d under. same left c d (omega (arith, under)) ∙ label_later rs row rows (length rest) left c d under in
    let first : (c d : ℕ) → c < length rs + 1 → d < length rs + 1 → g (length (f ∷ rest)) c d ≡ numbers_here c d = λ c d under_c under_d.
    same (length (f ∷ rest)) c d (omega arith) ∙ (label_first rs row rows (length rest) c d ∙ number-row_of (length rs + 1) numbers_here c d under_c under_d) in
    let others = solved rs g (index_past f.base index) rest numbers fit.1 counts.1 later in
    record {
      feasible = (solved_feasible rs g h index f rest later first, others.feasible);
      reached = (solved_reached rs g h index f rest later first numbers (fixup_fits-parts f fit.0).base counts, others.reached);
    }
