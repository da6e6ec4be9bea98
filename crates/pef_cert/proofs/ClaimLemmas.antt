-- The places of the labels of a claim.
use Rattle.std.proofs.Common.{◌≡◌, ◌≢◌, ℕ, zero, suc, ◌+◌, ◌-◌, ◌*◌, ◌<◌, ◌≤◌, true, List, [], ◌∷◌, length, take, drop, refl, ap, sym, ◌∙◌, subst, arith, slice_index, get_or-take, get_or-drop, nat_lt, ◌==◌, eq-eqb, Option, Some, None, slice_get}
use Rattle.std.specs.Prelude.{slice_index_or}
use Rattle.std.proofs.lemmas.Nat.{mul-add-lt}
use Rattle.std.proofs.lemmas.Bool.{and_parts, ltb-true, or_right}
use Rattle.std.proofs.lemmas.List.{drop_all, length-drop}
use Rattle.std.proofs.lemmas.Option.{slice_get-get_or}
use Rattle.std.proofs.Math.Path.{ap₂}
use Rattle.pef_reloc.specs.declared.fixup.Base.{Base}
use Rattle.pef_reloc.specs.declared.fixup.Base.TheVariants.{Section, Import}
use Rattle.pef_reloc.specs.declared.fixup.Fixup.{Fixup}
use Rattle.pef_reloc.specs.Limits.{most_sections}
use Rattle.pef_reloc.proofs.Laws.{used_section-below}
use Rattle.pef_words.proofs.Laws.Lists.{drop-here}
use Rattle.pef_cert.specs.declared.claim.CheckedSuffix.{CheckedSuffix}
use Rattle.pef_cert.specs.declared.claim.Claim.{Claim}
use Rattle.pef_labels.specs.Rising.{above_all}
use Rattle.pef_cert.specs.Valid.{is_among, rises}
use Rattle.pef_cert.proofs.ExtensionLemmas.{extension-away, extension-end, extension-here}
use Rattle.pef_cert.specs.Labels.{Labels, class_of}
use Rattle.pef_cert.specs.Extension.{OfferIs, change, extension, moved_value, offer_at}
use Rattle.pef_cert.specs.Kept.Claims.{IsRowOf, Knows, Sees, Shaped, rows_before}
use Rattle.pef_labels.specs.Rows.{RowsFull, rows_from}
use Rattle.pef_labels.proofs.Laws.{row-at}

-- the place of a label in a row
pub place_under : (r c d : ℕ) → c < r → d < r → c * r + d < r * r
place_under r c d under_c under_d = mul-add-lt c r d r under_c under_d

-- and among the kept labels
pub kept_under : (w count q place : ℕ) → q < count → place < w → q * w + place < w * count
kept_under w count q place under inside =
    let low = mul-add-lt q w place count under inside in
    omega (arith, low)

-- the rows before a kept one end with the one before it
before_end : (ends : List ℕ) (q j k : ℕ) → IsRowOf ends q j → suc k ≡ q → slice_index ends k ≤ j
before_end ends q j k row is = subst (λ (n : ℕ). rows_before ends n ≤ j) (sym is) row.after

-- a kept row is each row that it represents
pub row-kept : (w q j : ℕ) (ends values : List ℕ) → RowsFull w ends values → IsRowOf ends q j → take w (drop (q * w) values) ≡ slice_index_or (rows_from w 0 ends values) j []
row-kept w q j ends values full row = row-at w ends values q j full row.kept (λ k is. before_end ends q j k row is) row.before

-- a label of a kept row is that of each row that it represents
pub label-kept : (w q j n place : ℕ) (ends values : List ℕ) → RowsFull w ends values → IsRowOf ends q j → j ≤ n → place < w → slice_index values (q * w + place) ≡ slice_index (slice_index_or (rows_from w 0 ends values) (n - (n - j)) []) place
label-kept w q j n place ends values full row inside under =
    let same : n - (n - j) ≡ j = omega arith in
    sym (ap (λ i. slice_index (slice_index_or (rows_from w 0 ends values) i []) place) same
    ∙ (ap (λ r. slice_index r place) (sym (row-kept w q j ends values full row))
    ∙ (get_or-take w (drop (q * w) values) place 0 under
    ∙ get_or-drop (q * w) values place 0)))

-- rising registers below a limit are at most this many
few_above : (m low : ℕ) (rs : List ℕ) → above_all low rs ≡ true → ((k : ℕ) → is_among rs k ≡ true → k < m) → low < m → length rs + low < m
few_above m low [] up below first = omega arith
few_above m low (r ∷ rs) up below first =
    let both = and_parts (nat_lt low r) (above_all r rs) up in
    let over = ltb-true low r both.0 in
    let here = below r (rw (eq-eqb r r refl) refl) in
    let others = few_above m r rs both.1 (λ k among. below k (or_right (r == k) (is_among rs k) among)) here in
    omega (arith, over, others)

pub few_rising : (m : ℕ) (rs : List ℕ) → rises rs ≡ true → ((k : ℕ) → is_among rs k ≡ true → k < m) → length rs ≤ m
few_rising m [] up below = omega arith
few_rising m (r ∷ rs) up below =
    let here = below r (rw (eq-eqb r r refl) refl) in
    let others = few_above m r rs up (λ k among. below k (or_right (r == k) (is_among rs k) among)) here in
    omega (arith, others)

-- a claim with the right shape has few registers
pub shaped-few : (c : Claim) → Shaped c → length c.registers.now ≤ most_sections
shaped-few c shaped =
    few_rising most_sections c.registers.now shaped.registers.rising (λ k among. used_section-below c.fixups.now k shaped.fit (sym (shaped.registers.used k) ∙ among))

-- the element that `get` gives is the one there
pub get-is : {A : Type 0} (xs : List A) (at : ℕ) (x : A) → at < length xs → x ≡ slice_index_or xs at x → slice_get xs at ≡ Some x
get-is xs at x under is = slice_get-get_or xs at x under ∙ ap Some (sym is)

offer-known : (l : Labels) (f : Fixup) (rest : List Fixup) (c d x : ℕ) (b : Base) → f.base ≡ b → OfferIs l f rest c d x f.base → OfferIs l f rest c d x b
offer-known l f rest c d x b is known = subst (λ (y : Base). OfferIs l f rest c d x y) is known

-- the least offer as it is kept
pub offer-kept_section : (l : Labels) (f : Fixup) (rest : List Fixup) (c d x k n y : ℕ) → f.base ≡ Section k → OfferIs l f rest c d x f.base → n ≡ change d (class_of l.registers k) → y ≡ x → Some (n + y) ≡ offer_at l f rest c d
offer-kept_section l f rest c d x k n y base known first second =
    ap₂ (λ a b. Some (a + b)) first second ∙ sym (offer-known l f rest c d x (Section k) base known)

pub offer-kept_import : (l : Labels) (f : Fixup) (rest : List Fixup) (c d x k : ℕ) → f.base ≡ Import k → OfferIs l f rest c d x f.base → None ≡ offer_at l f rest c d
offer-kept_import l f rest c d x k base known = sym (offer-known l f rest c d x (Import k) base known)

-- the extension at an index, with its fixup and label known
pub get_under : {A : Type 0} (xs : List A) (at : ℕ) (x : A) → slice_get xs at ≡ Some x → at < length xs
get_under [] at x e = absurd (cc)
get_under (y ∷ ys) zero x e = omega arith
get_under (y ∷ ys) (suc at) x e = let low = get_under ys at x e in omega (arith, low)

pub label_there : (l : Labels) (fixups : List Fixup) (at : ℕ) (f : Fixup) (c d : ℕ) → slice_get fixups at ≡ Some f → l.label (length fixups - at) c d ≡ l.label (length (f ∷ drop (at + 1) fixups)) c d
label_there l fixups at f c d e =
    let under = get_under fixups at f e in
    let count : length fixups - at ≡ length (f ∷ drop (at + 1) fixups) = omega (arith, under, length-drop (at + 1) fixups) in
    ap (λ n. l.label n c d) count

pub value-here : (l : Labels) (fixups : List Fixup) (at : ℕ) (f : Fixup) (p c d x : ℕ) → slice_get fixups at ≡ Some f → p ≡ f.offset → x ≡ l.label (length fixups - at) c d → x ≡ extension l (drop at fixups) p c d
value-here l fixups at f p c d x e here is =
    is ∙ (label_there l fixups at f c d e
    ∙ (sym (extension-here l f (drop (at + 1) fixups) p c d here)
    ∙ ap (λ fs. extension l fs p c d) (sym (drop-here fixups at f e))))

pub value-away : (l : Labels) (fixups : List Fixup) (at : ℕ) (f : Fixup) (p c d x y : ℕ) (o : Option ℕ) → slice_get fixups at ≡ Some f → p ≢ f.offset → x ≡ l.label (length fixups - at) c d → o ≡ offer_at l f (drop (at + 1) fixups) c d → y ≡ moved_value (f.offset - p) x o → y ≡ extension l (drop at fixups) p c d
value-away l fixups at f p c d x y o e away is offer value =
    value
    ∙ (ap₂ (moved_value (f.offset - p)) (is ∙ label_there l fixups at f c d e) offer
    ∙ (sym (extension-away l f (drop (at + 1) fixups) p c d away)
    ∙ ap (λ fs. extension l fs p c d) (sym (drop-here fixups at f e))))

-- past the offset of the next fixup
pub value-past : (l : Labels) (fixups : List Fixup) (at : ℕ) (f : Fixup) (p c d x y : ℕ) → slice_get fixups at ≡ Some f → f.offset < p → x ≡ l.label (length fixups - at) c d → y ≡ 2 + x → y ≡ extension l (drop at fixups) p c d
value-past l fixups at f p c d x y e past is value =
    let none : f.offset - p ≡ 0 = omega arith in
    let o = offer_at l f (drop (at + 1) fixups) c d in
    value-away l fixups at f p c d x y o e (λ same. absurd (omega (arith, past, same))) is refl (value ∙ sym (ap (λ n. moved_value n x o) none))

pub value-end : (l : Labels) (fixups : List Fixup) (at p c d : ℕ) → length fixups ≤ at → 0 ≡ extension l (drop at fixups) p c d
value-end l fixups at p c d past = sym (ap (λ fs. extension l fs p c d) (drop_all at fixups past) ∙ extension-end l p c d)

-- the facts of a known index
pub knows-sees : (b : CheckedSuffix) (from j : ℕ) → Knows b from → from ≤ j → j < from + 1024 → j ≤ length b.claim.fixups.now → Sees b j
knows-sees b from j k after before inside = record {
  shaped = k.shaped;
  rows = k.rows;
  skips = k.skips;
  inside = inside;
  known = k.at j after before inside;
}
