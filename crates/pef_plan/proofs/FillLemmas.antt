-- One more row in the tables, and the properties of each row.
use Rattle.std.proofs.Common.{◌≡◌, ℕ, zero, suc, ◌+◌, ◌*◌, ◌<◌, ◌≤◌, inl, inr, true, List, [], ◌∷◌, ◌++◌, length, take, drop, replicate, slice_index, refl, ap, ap₂, sym, ◌∙◌, subst, arith, length-append}
use Rattle.std.specs.Prelude.{slice_index_or}
use Rattle.std.specs.List.{AllByRecursion}
use Rattle.std.proofs.Math.ListN.{get_or-append}
use Rattle.std.proofs.Math.Seq.{drop-cons, get_or-append_seam}
use Rattle.std.proofs.lemmas.List.{length-drop}
use Rattle.std.proofs.lemmas.Bool.{ltb-true, lt-ltb}
use Rattle.std.proofs.lemmas.Bool.Decides.{eqb_tells}
use Rattle.pef_reloc.specs.declared.fixup.Base.{Base}
use Rattle.pef_reloc.specs.declared.fixup.Base.TheVariants.{Section, Import}
use Rattle.pef_reloc.specs.declared.fixup.Fixup.{Fixup}
use Rattle.pef_reloc.specs.declared.instr.Instr.TheVariants.{SmSetSectC, SmSetSectD}
use Rattle.pef_reloc.specs.Deliveries.{index_after, index_past}
use Rattle.pef_reloc.specs.Fixups.{base_fits, fixup_fits, fixups_fit}
use Rattle.pef_reloc.proofs.Laws.{each_fits, fixup_fits-parts, fixups_fit-parts, used_section-below}
use Rattle.pef_cert.specs.Labels.{Labels, class_of, classes}
use Rattle.pef_cert.specs.Extension.{OfferIs, extension, skips_at}
use Rattle.pef_cert.specs.Feasible.{FeasibleAt}
use Rattle.pef_cert.specs.Valid.{RegistersOf}
use Rattle.pef_cert.proofs.Laws.{Numbers, RegisteredBase, World, all_registered, class_of-below, extension-here, feasible-tested, few_rising, index_later, numbers, offer-import, offer-section}
use Rattle.pef_plan.specs.declared.runs.suffix.SolvedSuffix.{SolvedSuffix}
use Rattle.pef_plan.specs.declared.runs.state.FixupState.{FixupState}
use Rattle.pef_plan.specs.declared.runs.ends.RunEnds.{RunEnds}
use Rattle.pef_plan.specs.Runs.Ends.{EndsAt, EndsOf}
use Rattle.pef_plan.specs.Runs.Places.{AtOf, Counts}
use Rattle.pef_plan.specs.Kept.Near.{StepsFrom}
use Rattle.pef_plan.specs.Kept.Rows.{RowOf, SkipsOf}
use Rattle.pef_plan.specs.Kept.Steps.{labels_tabled}
use Rattle.pef_plan.proofs.ImportLemmas.{steps-from}
use Rattle.pef_plan.specs.Runs.Tables.{Agrees, OffersAre, OffersFrom, SameLabels, Shaped, label_in, number_in, place_of, skip_in}
use Rattle.pef_labels.specs.Rows.{LaidRows}
use Rattle.pef_words.proofs.Laws.Lists.{all-append}
use Rattle.pef_plan.specs.Kept.Tables.{Tabled, TablesOf}
use Rattle.pef_plan.specs.Runs.Leads.{LeadsWithin}
use Rattle.pef_plan.specs.Reached.{ReachedAt}
use Rattle.pef_plan.proofs.RunsProofs.EndsKept.{ends-map}
use Rattle.pef_reloc.specs.Limits.{most_imports, most_sections}

counts-one : (rs : List ℕ) (b : Base) → RegisteredBase rs b → Counts rs b
counts-one rs (Section k) is = is
counts-one rs (Import k) is = tt

registered-one : (rs : List ℕ) (b : Base) → Counts rs b → RegisteredBase rs b
registered-one rs (Section k) is = is
registered-one rs (Import k) is = tt

pub counts-all : (rs : List ℕ) (fs : List Fixup) → AllByRecursion (λ f. RegisteredBase rs f.base) fs → AllByRecursion (λ f. Counts rs f.base) fs
counts-all rs [] is = tt
counts-all rs (f ∷ fs) is = (counts-one rs f.base is.0, counts-all rs fs is.1)

pub registered-all : (rs : List ℕ) (fs : List Fixup) → AllByRecursion (λ f. Counts rs f.base) fs → AllByRecursion (λ f. RegisteredBase rs f.base) fs
registered-all rs [] is = tt
registered-all rs (f ∷ fs) is = (registered-one rs f.base is.0, registered-all rs fs is.1)

-- a property of all elements is one of those from an index on
pub all-drop : (P : Fixup → Type 0) (n : ℕ) (fs : List Fixup) → AllByRecursion P fs → AllByRecursion P (drop n fs)
all-drop P zero fs all = all
all-drop P (suc n) [] all = tt
all-drop P (suc n) (f ∷ fs) all = all-drop P n fs all.1

pub all-take : (P : Fixup → Type 0) (n : ℕ) (fs : List Fixup) → AllByRecursion P fs → AllByRecursion P (take n fs)
all-take P zero fs all = tt
all-take P (suc n) [] all = tt
all-take P (suc n) (f ∷ fs) all = (all.0, all-take P n fs all.1)

past_small : (b : Base) (m : ℕ) → base_fits b ≡ true → m ≤ most_imports → index_past b m ≤ most_imports
past_small (Section k) m fits small = small
past_small (Import k) m fits small = let low = ltb-true k most_imports fits in omega (arith, low)

pub index-small : (fs : List Fixup) (m : ℕ) → AllByRecursion (λ f. fixup_fits f ≡ true) fs → m ≤ most_imports → index_after fs m ≤ most_imports
index-small [] m fit small = small
index-small (f ∷ fs) m fit small = index-small fs (index_past f.base m) fit.1 (past_small f.base m (fixup_fits-parts f fit.0).base small)

-- labels of a longer table are those of the shorter
pub same_before : (l : Labels) (rs : List ℕ) (labels : List (List ℕ)) (row : List ℕ) (n : ℕ) → length labels ≡ n + 1 → SameLabels l rs (labels ++ row ∷ []) (suc n) → SameLabels l rs labels n
same_before l rs labels row n count same = record {
  registers_are = same.registers_are;
  label_is = λ left c d under under_c under_d.
      same.label_is left c d (omega (arith, under)) under_c under_d
      ∙ ap (λ square. number_in (length rs + 1) square c d) (get_or-append labels (row ∷ []) [] left (omega (arith, count, under)));
}

-- the labels for one more fixup are those of the new row
pub same_last : (l : Labels) (rs : List ℕ) (labels : List (List ℕ)) (row : List ℕ) (n c d : ℕ) → length labels ≡ n + 1 → SameLabels l rs (labels ++ row ∷ []) (suc n) → c < length rs + 1 → d < length rs + 1 → l.label (suc n) c d ≡ number_in (length rs + 1) row c d
same_last l rs labels row n c d count same under_c under_d =
    let there : suc n ≡ length labels = omega (arith, count) in
    same.label_is (suc n) c d (omega arith) under_c under_d
    ∙ (ap (λ m. label_in (length rs + 1) (labels ++ row ∷ []) m c d) there
    ∙ ap (λ square. number_in (length rs + 1) square c d) (get_or-append_seam labels row [] []))

offers_before : (l : Labels) (skips : List (List ℕ)) (line : List ℕ) (fs : List Fixup) → length fs < length skips → OffersFrom l skips fs → OffersFrom l (skips ++ line ∷ []) fs
offers_before l skips line [] count offers = tt
offers_before l skips line (f ∷ rest) count offers = (
  λ c d under_c under_d. subst (λ (x : ℕ). OfferIs l f rest c d x f.base) (sym (ap (λ xs. slice_index xs c) (get_or-append skips (line ∷ []) [] (length (f ∷ rest)) count))) (offers.0 c d under_c under_d),
  offers_before l skips line rest (omega (arith, count)) offers.1,
)

-- labels that are those of a row, at its fixup
record RowLabels (l : Labels) (k : SolvedSuffix) (a : FixupState) (row : List ℕ) : Type 0 where
  agrees : Agrees l k a.others.now
  numbers : Numbers l
  row_is : RowOf k a row
  is : (c d : ℕ) → c < classes l → d < classes l → l.label (length (a.first ∷ a.others.now)) c d ≡ number_in (length k.registers.now + 1) row c d

under_same : (l : Labels) (k : SolvedSuffix) (c : ℕ) → l.registers ≡ k.registers.now → c < classes l → c < length k.registers.now + 1
under_same l k c same under = let e = ap length same in omega (arith, e, under)

row_feasible : (l : Labels) (k : SolvedSuffix) (a : FixupState) (row : List ℕ) → RowLabels l k a row → FeasibleAt l a.import_index a.first a.others.now
row_feasible l k a row r =
    let same = r.agrees.same.registers_are in
    let closed = r.row_is.closed in
    feasible-tested l a.import_index a.first a.others.now (record {
      sets = record {
        c_line = λ c e d under_c under_e under_d.
            let one = closed.c_line c e d (under_same l k c same under_c) (under_same l k e same under_e) (under_same l k d same under_d) in
            let here = r.is c d under_c under_d in
            let there = r.is e d under_e under_d in
            omega (arith, one, here, there);
        d_line = λ c d e under_c under_d under_e.
            let one = closed.d_line c d e (under_same l k c same under_c) (under_same l k d same under_d) (under_same l k e same under_e) in
            let here = r.is c d under_c under_d in
            let there = r.is c e under_c under_e in
            omega (arith, one, here, there);
      };
      adds = λ c d under_c under_d.
          let low = closed.below c d (under_same l k c same under_c) (under_same l k d same under_d) in
          let here = r.is c d under_c under_d in
          (r.row_is.direct_is c d (under_same l k c same under_c) (under_same l k d same under_d)).least l (l.label (length (a.first ∷ a.others.now)) c d) r.agrees (omega (arith, low, here));
    })

row_reached : (l : Labels) (k : SolvedSuffix) (a : FixupState) (row : List ℕ) → RowLabels l k a row → ReachedAt l a.import_index a.first a.others.now
row_reached l k a row r s at =
    let same = r.agrees.same.registers_are in
    let c : ℕ = class_of l.registers s.c in
    let d : ℕ = class_of l.registers s.d in
    let under_c = class_of-below l s.c in
    let under_d = class_of-below l s.d in
    let here = extension-here l a.first a.others.now s.position c d at.position in
    let label = r.is c d under_c under_d in
    elim (r.row_is.closed.from c d (under_same l k c same under_c) (under_same l k d same under_d)) [
      | inl direct ↦
          subst (λ (n : ℕ). LeadsWithin l s (a.first ∷ a.others.now) n) (sym (here ∙ (label ∙ direct)))
          ((r.row_is.direct_is c d (under_same l k c same under_c) (under_same l k d same under_d)).led l s r.agrees at refl refl)
      | inr set ↦ elim set [
        | inl by_c ↦
            (let under_e : by_c.0 < classes l = (let e = ap length same in let u = by_c.1 in omega (arith, e, u)) in
            let to = r.numbers.of by_c.0 under_e in
            let next = extension-here l a.first a.others.now s.position by_c.0 d at.position in
            let there = r.is by_c.0 d under_e under_d in
            let low = by_c.2 in
            let move = ap (λ x. extension l (a.first ∷ a.others.now) s.position x d) to.is in
            record {
              instr = SmSetSectC to.number;
              left = a.first ∷ a.others.now;
              flat = lt-ltb to.number 512 to.small;
              delivers = record { is = refl };
              falls = omega (arith, here, label, next, there, low, move);
            })
        | inr by_d ↦
            (let under_e : by_d.0 < classes l = (let e = ap length same in let u = by_d.1 in omega (arith, e, u)) in
            let to = r.numbers.of by_d.0 under_e in
            let next = extension-here l a.first a.others.now s.position c by_d.0 at.position in
            let there = r.is c by_d.0 under_c under_e in
            let low = by_d.2 in
            let move = ap (λ x. extension l (a.first ∷ a.others.now) s.position c x) to.is in
            record {
              instr = SmSetSectD to.number;
              left = a.first ∷ a.others.now;
              flat = lt-ltb to.number 512 to.small;
              delivers = record { is = refl };
              falls = omega (arith, here, label, next, there, low, move);
            })
      ]
    ]

-- the offers at the fixup of a line of least skips
line_offers : (l : Labels) (k : SolvedSuffix) (a : FixupState) (line : List ℕ) (index c d : ℕ) (b : Base) → World l index a.others.now → Agrees l k a.others.now → SkipsOf k a line → Counts l.registers b → a.first.base ≡ b → c < classes l → OfferIs l a.first a.others.now c d (slice_index line c) b
line_offers l k a line index c d (Section section) world agrees skips counts base under =
    let same = agrees.same.registers_are in
    let is = skips.is l section c agrees base (under_same l k c same under) in
    offer-section l index a.first a.others.now c d section (slice_index line c) world base counts under
    (ap (λ rs. skips_at l a.first a.others.now c (class_of rs section)) same ∙ is)
line_offers l k a line index c d (Import import) world agrees skips counts base under = offer-import l a.first a.others.now c d import base

-- tables with one more row
pub record RowMore (rs : List ℕ) (k : SolvedSuffix) (a : FixupState) (labels : List (List ℕ)) (skips : List (List ℕ)) (row : List ℕ) (line : List ℕ) : Type 0 where
  pub at : AtOf k a
  pub registers_are : k.registers.now ≡ rs
  pub labels_are : k.labels.now.rows ≡ labels
  pub skips_are : k.skips.now.rows ≡ skips
  pub row_is : RowOf k a row
  pub line_is : SkipsOf k a line

row_agrees : (l : Labels) (rs : List ℕ) (labels : List (List ℕ)) (skips : List (List ℕ)) (k : SolvedSuffix) (a : FixupState) (row : List ℕ) (line : List ℕ) (index : ℕ) → Tabled rs labels skips index a.others.now → RowMore rs k a labels skips row line → SameLabels l rs labels (length a.others.now) → Agrees l k a.others.now
row_agrees l rs labels skips k a row line index t m same = record {
  same = subst (λ (xs : List ℕ). SameLabels l xs k.labels.now.rows (length a.others.now)) (sym m.registers_are) (subst (λ (xs : List (List ℕ)). SameLabels l rs xs (length a.others.now)) (sym m.labels_are) same);
  offers = subst (λ (xs : List (List ℕ)). OffersFrom l xs a.others.now) (sym m.skips_are) (t.offers l same);
}

row_labels : (l : Labels) (rs : List ℕ) (labels : List (List ℕ)) (skips : List (List ℕ)) (k : SolvedSuffix) (a : FixupState) (row : List ℕ) (line : List ℕ) (index : ℕ) → Tabled rs labels skips index a.others.now → RowMore rs k a labels skips row line → Numbers l → SameLabels l rs (labels ++ row ∷ []) (suc (length a.others.now)) → RowLabels l k a row
row_labels l rs labels skips k a row line index t m numbers same = record {
  agrees = row_agrees l rs labels skips k a row line index t m (same_before l rs labels row (length a.others.now) t.labels_count same);
  numbers = numbers;
  row_is = m.row_is;
  is = λ c d under_c under_d.
      let e = ap length same.registers_are in
      same_last l rs labels row (length a.others.now) c d t.labels_count same (omega (arith, e, under_c)) (omega (arith, e, under_d))
      ∙ ap (λ xs. number_in (length xs + 1) row c d) (sym m.registers_are);
}

row_offers : (l : Labels) (rs : List ℕ) (labels : List (List ℕ)) (skips : List (List ℕ)) (k : SolvedSuffix) (a : FixupState) (row : List ℕ) (line : List ℕ) (index : ℕ) → Tabled rs labels skips index a.others.now → RowMore rs k a labels skips row line → Numbers l → SameLabels l rs (labels ++ row ∷ []) (suc (length a.others.now)) → OffersAre l (skips ++ line ∷ []) a.first a.others.now
row_offers l rs labels skips k a row line index t m numbers same c d under_c under_d =
    let before = same_before l rs labels row (length a.others.now) t.labels_count same in
    let agrees = row_agrees l rs labels skips k a row line index t m before in
    let regs = agrees.same.registers_are in
    let counts = subst (λ (xs : List ℕ). AllByRecursion (λ f. Counts xs f.base) (a.first ∷ a.others.now)) (sym regs) m.at.counts in
    let world : World l index a.others.now = record { numbers = numbers; registered = registered-all l.registers a.others.now counts.1; feasible = t.feasible l before } in
    let count = t.skips_count in
    let there : suc (length a.others.now) ≡ length skips = omega (arith, count) in
    let value : skip_in (skips ++ line ∷ []) (suc (length a.others.now)) c ≡ slice_index line c =
    ap (λ n. skip_in (skips ++ line ∷ []) n c) there ∙ ap (λ xs. slice_index xs c) (get_or-append_seam skips line [] []) in
    subst (λ (x : ℕ). OfferIs l a.first a.others.now c d x a.first.base) (sym value)
    (line_offers l k a line index c d a.first.base world agrees m.line_is counts.0 refl under_c)

label_small_more : (rs : List ℕ) (labels : List (List ℕ)) (skips : List (List ℕ)) (k : SolvedSuffix) (a : FixupState) (row : List ℕ) (line : List ℕ) (index left c d : ℕ) → Tabled rs labels skips index a.others.now → RowMore rs k a labels skips row line → left ≤ suc (length a.others.now) → c < length rs + 1 → d < length rs + 1 → label_in (length rs + 1) (labels ++ row ∷ []) left c d ≤ 4 * left
label_small_more rs labels skips k a row line index left c d t m under under_c under_d =
    let count = t.labels_count in
    elim (eqb_tells left (suc (length a.others.now))) [
      | inr other ↦
          (let apart = other.1 in
          let before : left ≤ length a.others.now = omega (arith, apart, under) in
          let same = ap (λ square. number_in (length rs + 1) square c d) (get_or-append labels (row ∷ []) [] left (omega (arith, before, count))) in
          let low = t.label_small left c d before under_c under_d in
          omega (arith, same, low))
      | inl last ↦
          (let e = ap length m.registers_are in
          let in_c : c < length k.registers.now + 1 = omega (arith, e, under_c) in
          let in_d : d < length k.registers.now + 1 = omega (arith, e, under_d) in
          let low = m.row_is.closed.below c d in_c in_d in
          let small = (m.row_is.direct_is c d in_c in_d).small in
          let wide = ap (λ xs. number_in (length xs + 1) row c d) m.registers_are in
          let is = last.1 in
          let there : left ≡ length labels = omega (arith, is, count) in
          let same = ap (λ n. label_in (length rs + 1) (labels ++ row ∷ []) n c d) there ∙ ap (λ square. number_in (length rs + 1) square c d) (get_or-append_seam labels row [] []) in
          omega (arith, same, low, small, is, wide))
    ]

skip_small_more : (rs : List ℕ) (labels : List (List ℕ)) (skips : List (List ℕ)) (k : SolvedSuffix) (a : FixupState) (row : List ℕ) (line : List ℕ) (index left c : ℕ) → Tabled rs labels skips index a.others.now → RowMore rs k a labels skips row line → left ≤ suc (length a.others.now) → c < length rs + 1 → skip_in (skips ++ line ∷ []) left c ≤ 4 * left
skip_small_more rs labels skips k a row line index left c t m under under_c =
    let count = t.skips_count in
    elim (eqb_tells left (suc (length a.others.now))) [
      | inr other ↦
          (let apart = other.1 in
          let before : left ≤ length a.others.now = omega (arith, apart, under) in
          let same = ap (λ xs. slice_index xs c) (get_or-append skips (line ∷ []) [] left (omega (arith, before, count))) in
          let low = t.skip_small left c before under_c in
          omega (arith, same, low))
      | inl last ↦
          (let e = ap length m.registers_are in
          let small = m.line_is.small c (omega (arith, e, under_c)) in
          let is = last.1 in
          let there : left ≡ length skips = omega (arith, is, count) in
          let same = ap (λ n. skip_in (skips ++ line ∷ []) n c) there ∙ ap (λ xs. slice_index xs c) (get_or-append_seam skips line [] []) in
          omega (arith, same, small, is))
    ]

tabled-next : (rs : List ℕ) (labels : List (List ℕ)) (skips : List (List ℕ)) (k : SolvedSuffix) (a : FixupState) (row : List ℕ) (line : List ℕ) (index : ℕ) → Tabled rs labels skips (index_past a.first.base index) a.others.now → RowMore rs k a labels skips row line → a.import_index ≡ index → ((l : Labels) → l.registers ≡ rs → Numbers l) → Tabled rs (labels ++ row ∷ []) (skips ++ line ∷ []) index (a.first ∷ a.others.now)
tabled-next rs labels skips k a row line index t m here numbers = record {
  labels_count = (let count = t.labels_count in let sum = length-append labels (row ∷ []) in omega (arith, count, sum));
  skips_count = (let count = t.skips_count in let sum = length-append skips (line ∷ []) in omega (arith, count, sum));
  label_small = λ left c d. label_small_more rs labels skips k a row line (index_past a.first.base index) left c d t m;
  skip_small = λ left c. skip_small_more rs labels skips k a row line (index_past a.first.base index) left c t m;
  last = λ c d under_c under_d.
      let count = t.labels_count in
      ap (λ square. number_in (length rs + 1) square c d) (get_or-append labels (row ∷ []) [] 0 (omega (arith, count))) ∙ t.last c d under_c under_d;
  feasible = λ l same. (
    subst (λ (n : ℕ). FeasibleAt l n a.first a.others.now) here (row_feasible l k a row (row_labels l rs labels skips k a row line (index_past a.first.base index) t m (numbers l same.registers_are) same)),
    t.feasible l (same_before l rs labels row (length a.others.now) t.labels_count same),
  );
  reached = λ l same. (
    subst (λ (n : ℕ). ReachedAt l n a.first a.others.now) here (row_reached l k a row (row_labels l rs labels skips k a row line (index_past a.first.base index) t m (numbers l same.registers_are) same)),
    t.reached l (same_before l rs labels row (length a.others.now) t.labels_count same),
  );
  offers = λ l same. (
    row_offers l rs labels skips k a row line (index_past a.first.base index) t m (numbers l same.registers_are) same,
    offers_before l skips line a.others.now (let count = t.skips_count in omega (arith, count)) (t.offers l (same_before l rs labels row (length a.others.now) t.labels_count same)),
  );
}

-- the index of the next import after one more fixup
pub index-next : (fixups : List Fixup) (at : ℕ) (f : Fixup) (n index : ℕ) → at < length fixups → index ≡ index_after (take at fixups) 0 → n ≡ index_past (slice_index_or fixups at f).base index → n ≡ index_after (take (at + 1) fixups) 0
index-next fixups at f n index under is next = next ∙ (ap (λ m. index_past (slice_index_or fixups at f).base m) is ∙ sym (index_later fixups at f under))

-- the indices of the next import at one more fixup
pub indices-more : (P : ℕ → ℕ → Type 0) (indices : List ℕ) (at index : ℕ) → length indices ≡ at → ((i : ℕ) → i < at → P i (slice_index indices i)) → P at index → (i : ℕ) → i < at + 1 → P i (slice_index (indices ++ index ∷ []) i)
indices-more P indices at index count are is i under =
    elim (eqb_tells i at) [
      | inl same ↦
          (let there : i ≡ length indices = same.1 ∙ sym count in
          subst (λ (j : ℕ). P j (slice_index (indices ++ index ∷ []) j)) (sym there)
          (subst (λ (v : ℕ). P (length indices) v) (sym (get_or-append_seam indices index [] 0))
          (subst (λ (j : ℕ). P j index) (sym count) is)))
      | inr other ↦
          (let apart = other.1 in
          subst (λ (v : ℕ). P i v) (sym (get_or-append indices (index ∷ []) 0 i (omega (arith, under, apart, count)))) (are i (omega (arith, under, apart))))
    ]

-- the state at the fixup of an index
pub record StateAt (fixups : List Fixup) (at : ℕ) (a : FixupState) : Type 0 where
  pub left : a.left.now ≡ drop at fixups
  pub parts : drop at fixups ≡ a.first ∷ a.others.now
  pub others : a.others.now ≡ drop (at + 1) fixups
  pub import_index : a.import_index ≡ index_after (take at fixups) 0

-- the tables are those that are known there
pub record KnownOf (k : SolvedSuffix) (rs : List ℕ) (labels : List (List ℕ)) (skips : List (List ℕ)) : Type 0 where
  pub registers_are : k.registers.now ≡ rs
  pub labels_are : k.labels.now.rows ≡ labels
  pub skips_are : k.skips.now.rows ≡ skips
  pub labels_wide : k.labels.now.width ≡ (length rs + 1) * (length rs + 1)
  pub skips_wide : k.skips.now.width ≡ length rs + 1

pub known_shaped : (fixups : List Fixup) (rs : List ℕ) (labels : List (List ℕ)) (skips : List (List ℕ)) (k : SolvedSuffix) (index : ℕ) (rest : List Fixup) → fixups_fit fixups ≡ true → RegistersOf fixups rs → length rest ≤ length fixups → Tabled rs labels skips index rest → KnownOf k rs labels skips → Shaped k (length rest)
known_shaped fixups rs labels skips k index rest fit right few t known =
    let regs = known.registers_are in
    let e = ap length regs in
    record {
      few = (let low = few_rising most_sections rs right.rising (λ j among. used_section-below fixups j fit (sym (right.used j) ∙ among)) in omega (arith, e, low));
      count = (let low = (fixups_fit-parts fixups fit).count in omega (arith, few, low));
      labels = (let count = t.labels_count in let same = ap length known.labels_are in omega (arith, count, same));
      skips = (let count = t.skips_count in let same = ap length known.skips_are in omega (arith, count, same));
      labels_wide = known.labels_wide ∙ ap (λ xs. (length xs + 1) * (length xs + 1)) (sym regs);
      skips_wide = known.skips_wide ∙ ap (λ xs. length xs + 1) (sym regs);
      label_small = λ left c d under under_c under_d.
          let low = t.label_small left c d under (omega (arith, e, under_c)) (omega (arith, e, under_d)) in
          let same = ap (λ ls. label_in (length rs + 1) ls left c d) known.labels_are in
          let wide = ap (λ xs. label_in (length xs + 1) k.labels.now.rows left c d) regs in
          omega (arith, low, same, wide);
      skip_small = λ left c under under_c.
          let low = t.skip_small left c under (omega (arith, e, under_c)) in
          let same = ap (λ ls. skip_in ls left c) known.skips_are in
          omega (arith, low, same);
    }

pub fill-at : (fixups : List Fixup) (rs : List ℕ) (labels : List (List ℕ)) (skips : List (List ℕ)) (at n index : ℕ) (k : SolvedSuffix) (a : FixupState) → fixups_fit fixups ≡ true → RegistersOf fixups rs → n ≡ at + 1 → n ≤ length fixups → Tabled rs labels skips index (drop n fixups) → KnownOf k rs labels skips → StateAt fixups at a → AtOf k a
fill-at fixups rs labels skips at n index k a fit right step inside t known state =
    let rest : drop n fixups ≡ a.others.now = ap (λ m. drop m fixups) step ∙ sym state.others in
    let fewer = length-drop n fixups in
    let e = ap length rest in
    let t' = subst (λ (fs : List Fixup). Tabled rs labels skips index fs) rest t in
    record {
      parts = state.left ∙ state.parts;
      shaped = known_shaped fixups rs labels skips k index a.others.now fit right (omega (arith, fewer, e)) t' known;
      fit = subst (λ (fs : List Fixup). AllByRecursion (λ f. fixup_fits f ≡ true) fs) state.parts (all-drop (λ f. fixup_fits f ≡ true) at fixups (each_fits fixups fit));
      counts = subst (λ (fs : List Fixup). AllByRecursion (λ f. Counts k.registers.now f.base) fs) state.parts
          (all-drop (λ f. Counts k.registers.now f.base) at fixups (subst (λ (xs : List ℕ). AllByRecursion (λ f. Counts xs f.base) fixups) (sym known.registers_are) (counts-all rs fixups (all_registered fixups rs right))));
      import_small = (let low = index-small (take at fixups) 0 (all-take (λ f. fixup_fits f ≡ true) at fixups (each_fits fixups fit)) (omega arith) in let is = state.import_index in omega (arith, low, is));
    }

-- the change of one register changes the extension at each suffix of the fixups that are left by at most 1
pub fill-steps : (fixups : List Fixup) (rs : List ℕ) (labels : List (List ℕ)) (skips : List (List ℕ)) (at n index : ℕ) (k : SolvedSuffix) (a : FixupState) → fixups_fit fixups ≡ true → RegistersOf fixups rs → n ≡ at + 1 → n ≤ length fixups → Tabled rs labels skips index (drop n fixups) → KnownOf k rs labels skips → StateAt fixups at a → StepsFrom k a.others.now
fill-steps fixups rs labels skips at n index k a fit right step inside t known state =
    let rest : drop n fixups ≡ a.others.now = ap (λ m. drop m fixups) step ∙ sym state.others in
    let t' = subst (λ (fs : List Fixup). Tabled rs labels skips index fs) rest t in
    let l : Labels = labels_tabled k in
    let same : SameLabels l rs labels (length a.others.now) = record {
      registers_are = known.registers_are;
      label_is = λ left c d _ _ _. ap₂ (λ (xs : List ℕ) (ls : List (List ℕ)). label_in (length xs + 1) ls left c d) known.registers_are known.labels_are;
    } in
    let here = fill-at fixups rs labels skips at n index k a fit right step inside t known state in
    steps-from k l index a.others.now
    (record {
      same = record { registers_are = refl; label_is = λ left c d _ _ _. refl };
      offers = subst (λ (xs : List (List ℕ)). OffersFrom l xs a.others.now) (sym known.skips_are) (t'.offers l same);
    })
    (record {
      numbers = numbers fixups l fit (subst (λ (xs : List ℕ). RegistersOf fixups xs) (sym known.registers_are) right);
      registered = registered-all k.registers.now a.others.now here.counts.1;
      feasible = t'.feasible l same;
    })

first_is : (fixups : List Fixup) (at : ℕ) (a : FixupState) → at < length fixups → StateAt fixups at a → index_after (take (at + 1) fixups) 0 ≡ index_past a.first.base (index_after (take at fixups) 0)
first_is fixups at a under state =
    let whole : slice_index_or fixups at a.first ∷ drop (suc at) fixups ≡ a.first ∷ a.others.now = sym (drop-cons fixups at a.first under) ∙ state.parts in
    let same : slice_index_or fixups at a.first ≡ a.first = cc in
    index_later fixups at a.first under ∙ ap (λ (f : Fixup). index_past f.base (index_after (take at fixups) 0)) same

pub fill-next : (fixups : List Fixup) (rs : List ℕ) (labels : List (List ℕ)) (skips : List (List ℕ)) (at n : ℕ) (k : SolvedSuffix) (a : FixupState) (row : List ℕ) (line : List ℕ) → fixups_fit fixups ≡ true → RegistersOf fixups rs → n ≡ at + 1 → n ≤ length fixups → Tabled rs labels skips (index_after (take n fixups) 0) (drop n fixups) → KnownOf k rs labels skips → StateAt fixups at a → RowOf k a row → SkipsOf k a line → Tabled rs (labels ++ row ∷ []) (skips ++ line ∷ []) (index_after (take at fixups) 0) (drop at fixups)
fill-next fixups rs labels skips at n k a row line fit right step inside t known state row_is line_is =
    let index : index_after (take n fixups) 0 ≡ index_past a.first.base (index_after (take at fixups) 0) = ap (λ m. index_after (take m fixups) 0) step ∙ first_is fixups at a (omega (arith, step, inside)) state in
    let rest : drop n fixups ≡ a.others.now = ap (λ m. drop m fixups) step ∙ sym state.others in
    let t' = subst (λ (fs : List Fixup). Tabled rs labels skips (index_past a.first.base (index_after (take at fixups) 0)) fs) rest (subst (λ (m : ℕ). Tabled rs labels skips m (drop n fixups)) index t) in
    subst (λ (fs : List Fixup). Tabled rs (labels ++ row ∷ []) (skips ++ line ∷ []) (index_after (take at fixups) 0) fs) (sym state.parts)
    (tabled-next rs labels skips k a row line (index_after (take at fixups) 0) t' (record {
      at = fill-at fixups rs labels skips at n (index_after (take n fixups) 0) k a fit right step inside t known state;
      registers_are = known.registers_are;
      labels_are = known.labels_are;
      skips_are = known.skips_are;
      row_is = row_is;
      line_is = line_is;
    }) state.import_index (λ l same. numbers fixups l fit (subst (λ (xs : List ℕ). RegistersOf fixups xs) (sym same) right)))

-- the windows at the fixup of an index, and at the next one that is filled
pub ends-at : (fixups : List Fixup) (rs : List ℕ) (labels : List (List ℕ)) (skips : List (List ℕ)) (at n : ℕ) (k : SolvedSuffix) (a : FixupState) (e : RunEnds) → n ≡ at + 1 → KnownOf k rs labels skips → StateAt fixups at a → EndsOf (λ l. SameLabels l rs labels (length (drop n fixups))) (length rs + 1) (drop n fixups) e → EndsAt k a.others.now a.others.now e
ends-at fixups rs labels skips at n k a e step known state ends =
    let rest : drop n fixups ≡ a.others.now = ap (λ m. drop m fixups) step ∙ sym state.others in
    let here = subst (λ (fs : List Fixup). EndsOf (λ l. SameLabels l rs labels (length fs)) (length rs + 1) fs e) rest ends in
    let counted = subst (λ (xs : List ℕ). EndsOf (λ l. SameLabels l rs labels (length a.others.now)) (length xs + 1) a.others.now e) (sym known.registers_are) here in
    ends-map (λ l. SameLabels l rs labels (length a.others.now)) (λ l. Agrees l k a.others.now) (length k.registers.now + 1) a.others.now e
    (λ l agrees. subst (λ (xs : List ℕ). SameLabels l xs labels (length a.others.now)) known.registers_are (subst (λ (xs : List (List ℕ)). SameLabels l k.registers.now xs (length a.others.now)) known.labels_are agrees.same))
    counted

agrees_before : (l : Labels) (rs : List ℕ) (labels : List (List ℕ)) (skips : List (List ℕ)) (k : SolvedSuffix) (others : List Fixup) (row : List ℕ) (index : ℕ) → Tabled rs labels skips index others → KnownOf k rs labels skips → SameLabels l rs (labels ++ row ∷ []) (suc (length others)) → Agrees l k others
agrees_before l rs labels skips k others row index t known same =
    let before = same_before l rs labels row (length others) t.labels_count same in
    record {
      same = subst (λ (xs : List ℕ). SameLabels l xs k.labels.now.rows (length others)) (sym known.registers_are) (subst (λ (xs : List (List ℕ)). SameLabels l rs xs (length others)) (sym known.labels_are) before);
      offers = subst (λ (xs : List (List ℕ)). OffersFrom l xs others) (sym known.skips_are) (t.offers l before);
    }

pub ends-next : (fixups : List Fixup) (rs : List ℕ) (labels : List (List ℕ)) (skips : List (List ℕ)) (at n index : ℕ) (k : SolvedSuffix) (a : FixupState) (row : List ℕ) (e : RunEnds) → n ≡ at + 1 → Tabled rs labels skips index (drop n fixups) → KnownOf k rs labels skips → StateAt fixups at a → EndsAt k a.others.now (a.first ∷ a.others.now) e → EndsOf (λ l. SameLabels l rs (labels ++ row ∷ []) (length (drop at fixups))) (length rs + 1) (drop at fixups) e
ends-next fixups rs labels skips at n index k a row e step t known state ends =
    let rest : drop n fixups ≡ a.others.now = ap (λ m. drop m fixups) step ∙ sym state.others in
    let t' = subst (λ (fs : List Fixup). Tabled rs labels skips index fs) rest t in
    let counted = subst (λ (xs : List ℕ). EndsOf (λ l. Agrees l k a.others.now) (length xs + 1) (a.first ∷ a.others.now) e) known.registers_are ends in
    subst (λ (fs : List Fixup). EndsOf (λ l. SameLabels l rs (labels ++ row ∷ []) (length fs)) (length rs + 1) fs e) (sym state.parts)
    (ends-map (λ l. Agrees l k a.others.now) (λ l. SameLabels l rs (labels ++ row ∷ []) (suc (length a.others.now))) (length rs + 1) (a.first ∷ a.others.now) e (λ l same. agrees_before l rs labels skips k a.others.now row index t' known same) counted)

-- the tables for no fixups left
zeros_line : (n d : ℕ) → slice_index (replicate n 0) d ≡ 0
zeros_line zero d = refl
zeros_line (suc n) zero = refl
zeros_line (suc n) (suc d) = zeros_line n d

pub tabled-none : (rs : List ℕ) (index m n : ℕ) → Tabled rs (replicate m 0 ∷ []) (replicate n 0 ∷ []) index []
tabled-none rs index m n = record {
  labels_count = refl;
  skips_count = refl;
  label_small = λ left c d under _ _. let none : left ≡ 0 = omega (arith, under) in let e = ap (λ x. label_in (length rs + 1) (replicate m 0 ∷ []) x c d) none in let is = zeros_line m (place_of (length rs + 1) c d) in omega (arith, e, is);
  skip_small = λ left c under _. let none : left ≡ 0 = omega (arith, under) in let e = ap (λ x. skip_in (replicate n 0 ∷ []) x c) none in let is = zeros_line n c in omega (arith, e, is);
  last = λ c d _ _. zeros_line m (place_of (length rs + 1) c d);
  feasible = λ l same. tt;
  reached = λ l same. tt;
  offers = λ l same. tt;
}

pub fill-none : (rest : List Fixup) (rs : List ℕ) (labels : List (List ℕ)) (skips : List (List ℕ)) (index m n : ℕ) → rest ≡ [] → labels ≡ replicate m 0 ∷ [] → skips ≡ replicate n 0 ∷ [] → Tabled rs labels skips index rest
fill-none rest rs labels skips index m n none labels_are skips_are = rw (none, labels_are, skips_are) (tabled-none rs index m n)

pub ends-none : (rest : List Fixup) (rs : List ℕ) (labels : List (List ℕ)) (count : ℕ) (e : RunEnds) → rest ≡ [] → count ≡ length rs + 1 → EndsOf (λ l. Unit {0}) count [] e → EndsOf (λ l. SameLabels l rs labels (length rest)) (length rs + 1) rest e
ends-none rest rs labels count e none same ends =
    rw (none, ← same) (ends-map (λ l. Unit {0}) (λ l. SameLabels l rs labels 0) count [] e (λ l s. tt) ends)

-- tables as they are stored, with one more row
pub tables-next : (fixups : List Fixup) (rs : List ℕ) (labels skips new_labels new_skips : LaidRows) (at n : ℕ) (k : SolvedSuffix) (a : FixupState) (row : List ℕ) (line : List ℕ) → fixups_fit fixups ≡ true → RegistersOf fixups rs → n ≡ at + 1 → n ≤ length fixups → TablesOf rs labels skips (index_after (take n fixups) 0) (drop n fixups) → KnownOf k rs labels.rows skips.rows → StateAt fixups at a → RowOf k a row → SkipsOf k a line → length row ≡ (length rs + 1) * (length rs + 1)
    → new_labels ≡ record { width = labels.width; rows = labels.rows ++ row ∷ [] } → new_skips ≡ record { width = skips.width; rows = skips.rows ++ line ∷ [] } → TablesOf rs new_labels new_skips (index_after (take at fixups) 0) (drop at fixups)
tables-next fixups rs labels skips new_labels new_skips at n k a row line fit right step inside t known state row_is line_is wide labels_are skips_are =
    rw (labels_are, skips_are) (record {
      tabled = fill-next fixups rs labels.rows skips.rows at n k a row line fit right step inside t.tabled known state row_is line_is;
      labels_wide = t.labels_wide;
      skips_wide = t.skips_wide;
      rows_wide = all-append (λ r. length r ≡ (length rs + 1) * (length rs + 1)) labels.rows (row ∷ []) t.rows_wide (wide, tt);
    })
