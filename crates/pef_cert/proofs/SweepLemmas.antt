-- The sweep from the last fixup to the first: the kept row of each index, the values in the ring, and that
-- labels are feasible from the current index on.
use Rattle.std.proofs.Common.{◌≡◌, ◌≢◌, ℕ, zero, suc, ◌+◌, ◌-◌, ◌*◌, ◌/◌, ◌%◌, ◌^◌, ◌<◌, ◌≤◌, ◌⊎◌, inl, inr, true, List, [], ◌∷◌, length, take, drop, Some, refl, ap, sym, ◌∙◌, subst, arith, slice_get, slice_index, nat_lt, nat_le, add_comm, mul_comm}
use Rattle.std.specs.Prelude.{slice_index_or, slice_set}
use Rattle.std.specs.List.{AllByRecursion}
use Rattle.std.proofs.Math.Nat.{mod-add-div, mod-lt, div-lt_iff_lt-mul}
use Rattle.std.proofs.lemmas.Bool.{and_parts, leb-true, ltb-true}
use Rattle.std.proofs.lemmas.Bool.Decides.{eqb_tells}
use Rattle.std.proofs.lemmas.List.{drop_all, get_or-set_other, get_or-set_same, length-drop, length-set}
use Rattle.std.proofs.lemmas.Option.{slice_get-get_or}
use Rattle.pef_reloc.specs.declared.fixup.Base.{Base}
use Rattle.pef_reloc.specs.declared.fixup.Base.TheVariants.{Section, Import}
use Rattle.pef_reloc.specs.declared.fixup.Fixup.{Fixup}
use Rattle.pef_reloc.specs.Deliveries.{index_after, index_past}
use Rattle.pef_reloc.specs.Fixups.{fixup_fits, fixups_fit, fixups_from}
use Rattle.pef_reloc.specs.Limits.{most_fixups}
use Rattle.pef_reloc.proofs.Laws.{each_fits}
use Rattle.pef_words.proofs.Laws.Lists.{drop-here}
use Rattle.pef_cert.specs.declared.claim.Claim.{Claim}
use Rattle.pef_cert.specs.Extension.{OfferIs, change, offer_at, skips_at}
use Rattle.pef_cert.specs.Feasible.{Feasible, FeasibleAt, FeasibleFrom}
use Rattle.pef_cert.specs.Labels.{Labels, class_of, classes}
use Rattle.pef_labels.specs.Rising.{above_all}
use Rattle.pef_cert.specs.Valid.{labels_in}
use Rattle.pef_cert.specs.Kept.Claims.{IsRowOf, KnownAt, Shaped, SkipsAre, SkipsKept, Swept, labels_claimed, rows_before, word_end}
use Rattle.pef_labels.specs.Rows.{RowsFull, rows_from}
use Rattle.pef_cert.specs.Kept.Sets.{RowIsZero}
use Rattle.pef_cert.proofs.AdditionLemmas.{index_later}
use Rattle.pef_cert.proofs.Bounds.{extension-small}
use Rattle.pef_cert.proofs.ClaimLemmas.{get_under, place_under}
use Rattle.pef_cert.proofs.ClassLemmas.{RegisteredBase, all_registered, class_of-below, numbers}
use Rattle.pef_cert.proofs.FeasibleLemmas.{section-counts}
use Rattle.pef_cert.proofs.Falling.{World}
use Rattle.pef_labels.proofs.Laws.{rows-some}
use Rattle.pef_cert.proofs.SkipLemmas.{offer-import, offer-section, skip-low}

-- ends rise
rising_at : (low : ℕ) (ends : List ℕ) (q : ℕ) → above_all low ends ≡ true → suc q < length ends → slice_index ends q < slice_index ends (suc q)
rising_at low [] q up under = absurd (omega arith)
rising_at low (x ∷ []) q up under = absurd (omega arith)
rising_at low (x ∷ y ∷ ends) zero up under = ltb-true x y (and_parts (nat_lt x y) (above_all y ends) (and_parts (nat_lt low x) (above_all x (y ∷ ends)) up).1).0
rising_at low (x ∷ y ∷ ends) (suc q) up under = rising_at x (y ∷ ends) q (and_parts (nat_lt low x) (above_all x (y ∷ ends)) up).1 (omega arith)

first_above : (low : ℕ) (ends : List ℕ) → above_all low ends ≡ true → 0 < length ends → low < slice_index ends 0
first_above low [] up some = absurd (omega arith)
first_above low (x ∷ ends) up some = ltb-true low x (and_parts (nat_lt low x) (above_all x ends) up).0

before_below : (ends : List ℕ) (q : ℕ) → above_all 0 ends ≡ true → q < length ends → rows_before ends q < slice_index ends q
before_below ends zero up under = first_above 0 ends up under
before_below ends (suc q) up under = rising_at 0 ends q up under

-- the kept row of the first index
pub row-first : (ends : List ℕ) → above_all 0 ends ≡ true → 0 < length ends → IsRowOf ends 0 0
row-first ends up some = record { kept = some; after = omega arith; before = first_above 0 ends up some }

-- that of the index before one
pub row-steps : (ends : List ℕ) (q j : ℕ) → above_all 0 ends ≡ true → IsRowOf ends (suc q) (j + 1) → j < slice_index ends q → IsRowOf ends q j
row-steps ends q j up row under =
    let kept : q < length ends = omega (arith, row.kept) in
    let low = before_below ends q up kept in
    record { kept = kept; after = omega (arith, low, row.after); before = under }

-- and that of the last
last_get : (ends : List ℕ) → 0 < length ends → slice_get ends (length ends - 1) ≡ Some (slice_index ends (length ends - 1))
last_get ends some = slice_get-get_or ends (length ends - 1) 0 (omega (arith, some))

pub row-last : (w n : ℕ) (ends values : List ℕ) → RowsFull w ends values → length (rows_from w 0 ends values) ≡ n + 1 → IsRowOf ends (length ends - 1) n
row-last w n ends values full count =
    elim (some_or_none ends) [
      | inl none ↦ absurd (let z : length (rows_from w 0 [] values) ≡ n + 1 = ap (λ es. length (rows_from w 0 es values)) (sym none) ∙ count in omega (arith, z))
      | inr some ↦
          (let is = rows-some w (slice_index ends (length ends - 1)) ends values full (last_get ends some) in
          let low = before_below ends (length ends - 1) full.rising (omega (arith, some)) in
          record { kept = omega (arith, some); after = omega (arith, low, is, count); before = omega (arith, is, count) })
    ]
  where
    some_or_none : (ends : List ℕ) → (ends ≡ []) ⊎ (0 < length ends)
    some_or_none [] = inl refl
    some_or_none (x ∷ ends) = inr (omega arith)

-- the ring at the end of the fixups
apart : (at j : ℕ) → at < j → j < at + 1024 → j % 1024 ≢ at % 1024
apart at j after before = λ e. absurd (omega (arith, e))

only_end : (n j : ℕ) → n ≤ j → j ≤ n → j ≡ n
only_end n j a b = omega arith

pub swept-end : (claim : Claim) (q : ℕ) (ring : List ℕ) (least : List (List ℕ)) → Shaped claim → IsRowOf claim.kept.ends.now q (length claim.fixups.now) → length ring ≡ 1024 → length least ≡ 1024 → Swept claim (slice_set ring (length claim.fixups.now % 1024) q) least (length claim.fixups.now)
swept-end claim q ring least shaped row rows skips = record {
  shaped = shaped;
  rows = length-set ring (length claim.fixups.now % 1024) q ∙ rows;
  skips = skips;
  at = λ j after before inside.
      let n = length claim.fixups.now in
      let same : j ≡ n = only_end n j after inside in
      let under : n % 1024 < length ring = rw rows (mod-lt n (omega arith)) in
      subst (λ (i : ℕ). KnownAt claim (slice_set ring (n % 1024) q) least i) (sym same) (record {
        row = subst (λ (r : ℕ). IsRowOf claim.kept.ends.now r n) (sym (get_or-set_same ring (n % 1024) q 0 under)) row;
        offer = λ f rest e. absurd (let none : ◌≡◌ {A = List Fixup} [] (f ∷ rest) = sym (drop_all n claim.fixups.now (omega arith)) ∙ e in cc);
      });
}

-- and one fixup further, with the values in the ring for its skips
known_here : (claim : Claim) (q at : ℕ) (ring : List ℕ) (least : List (List ℕ)) (f : Fixup) → length ring ≡ 1024 → slice_get claim.fixups.now at ≡ Some f → IsRowOf claim.kept.ends.now q at → SkipsKept claim at f (drop (at + 1) claim.fixups.now) (slice_index_or least (at % 1024) []) → KnownAt claim (slice_set ring (at % 1024) q) least at
known_here claim q at ring least f rows here row are =
    let in_ring : at % 1024 < length ring = rw rows (mod-lt at (omega arith)) in
    let new : List ℕ = slice_index_or least (at % 1024) [] in
    record {
      row = subst (λ (r : ℕ). IsRowOf claim.kept.ends.now r at) (sym (get_or-set_same ring (at % 1024) q 0 in_ring)) row;
      offer = λ g rest e.
          let parts : ◌≡◌ {A = List Fixup} (f ∷ drop (at + 1) claim.fixups.now) (g ∷ rest) = sym (drop-here claim.fixups.now at f here) ∙ e in
          let first : f ≡ g = cc in
          let others : drop (at + 1) claim.fixups.now ≡ rest = cc in
          subst (λ (h : Fixup). SkipsKept claim at h rest new) first (subst (λ (fs : List Fixup). SkipsKept claim at f fs new) others are);
    }

known_there : (claim : Claim) (q at j : ℕ) (ring : List ℕ) (least fresh : List (List ℕ)) → j % 1024 ≢ at % 1024 → slice_index_or fresh (j % 1024) [] ≡ slice_index_or least (j % 1024) [] → KnownAt claim ring least j → KnownAt claim (slice_set ring (at % 1024) q) fresh j
known_there claim q at j ring least fresh other same known = record {
  row = subst (λ (r : ℕ). IsRowOf claim.kept.ends.now r j) (sym (get_or-set_other ring (at % 1024) (j % 1024) q 0 other)) known.row;
  offer = λ f rest e. subst (λ (l : List ℕ). SkipsKept claim j f rest l) (sym same) (known.offer f rest e);
}

here_or_there : (at j : ℕ) → at ≤ j → (j ≡ at) ⊎ (at < j)
here_or_there at j after =
    elim (eqb_tells j at) [
      | inl same ↦ inl same.1
      | inr other ↦ inr (omega (arith, other.1))
    ]

swept_with : (claim : Claim) (q at : ℕ) (ring : List ℕ) (least fresh : List (List ℕ)) (f : Fixup) → Swept claim ring least (at + 1) → slice_get claim.fixups.now at ≡ Some f → IsRowOf claim.kept.ends.now q at → length fresh ≡ 1024 → SkipsKept claim at f (drop (at + 1) claim.fixups.now) (slice_index_or fresh (at % 1024) []) → ((i : ℕ) → i ≢ at % 1024 → slice_index_or fresh i [] ≡ slice_index_or least i []) → Swept claim (slice_set ring (at % 1024) q) fresh at
swept_with claim q at ring least fresh f swept here row skips are same = record {
  shaped = swept.shaped;
  rows = length-set ring (at % 1024) q ∙ swept.rows;
  skips = skips;
  at = λ j after before inside.
      elim (here_or_there at j after) [
        | inl equal ↦ subst (λ (i : ℕ). KnownAt claim (slice_set ring (at % 1024) q) fresh i) (sym equal) (known_here claim q at ring fresh f swept.rows here row are)
        | inr later ↦
            (let other = apart at j later before in
            known_there claim q at j ring least fresh other (same (j % 1024) other) (swept.at j (omega (arith, later)) (omega (arith, before)) inside))
      ];
}

pub swept-next : (claim : Claim) (q at : ℕ) (ring : List ℕ) (least : List (List ℕ)) (f : Fixup) (new : List ℕ) → Swept claim ring least (at + 1) → slice_get claim.fixups.now at ≡ Some f → IsRowOf claim.kept.ends.now q at → SkipsAre claim f (drop (at + 1) claim.fixups.now) new → Swept claim (slice_set ring (at % 1024) q) (slice_set least (at % 1024) new) at
swept-next claim q at ring least f new swept here row are =
    let in_least : at % 1024 < length least = rw swept.skips (mod-lt at (omega arith)) in
    swept_with claim q at ring least (slice_set least (at % 1024) new) f swept here row (length-set least (at % 1024) new ∙ swept.skips)
    (λ gap. subst (λ (l : List ℕ). SkipsAre claim f (drop (at + 1) claim.fixups.now) l) (sym (get_or-set_same least (at % 1024) new [] in_least)) are)
    (λ i other. get_or-set_other least (at % 1024) i new [] other)

-- the same if there is no gap before the word
pub swept-close : (claim : Claim) (q at : ℕ) (ring : List ℕ) (least : List (List ℕ)) (f : Fixup) → Swept claim ring least (at + 1) → slice_get claim.fixups.now at ≡ Some f → IsRowOf claim.kept.ends.now q at → f.offset ≤ word_end claim.fixups.now at → Swept claim (slice_set ring (at % 1024) q) least at
swept-close claim q at ring least f swept here row close =
    swept_with claim q at ring least least f swept here row swept.skips (λ gap. absurd (omega (arith, gap, close))) (λ i other. refl)

-- labels that are feasible from one fixup on, and from the one before it
pub index_next : (fixups : List Fixup) (at : ℕ) (f : Fixup) → slice_get fixups at ≡ Some f → index_after (take (at + 1) fixups) 0 ≡ index_past f.base (index_after (take at fixups) 0)
index_next fixups at f e =
    let under = get_under fixups at f e in
    let is = got_is fixups at f e in
    index_later fixups at f under ∙ ap (λ (g : Fixup). index_past g.base (index_after (take at fixups) 0)) is
  where
    some_same : (f g : Fixup) → Some f ≡ Some g → f ≡ g
    some_same f g e = cc

    got_is : (fixups : List Fixup) (at : ℕ) (f : Fixup) → slice_get fixups at ≡ Some f → slice_index_or fixups at f ≡ f
    got_is fixups at f e = some_same (slice_index_or fixups at f) f (sym (slice_get-get_or fixups at f (get_under fixups at f e)) ∙ e)

pub feasible-before : (l : Labels) (fixups : List Fixup) (at : ℕ) (f : Fixup) → slice_get fixups at ≡ Some f → FeasibleAt l (index_after (take at fixups) 0) f (drop (at + 1) fixups) → FeasibleFrom l (index_after (take (at + 1) fixups) 0) (drop (at + 1) fixups) → FeasibleFrom l (index_after (take at fixups) 0) (drop at fixups)
feasible-before l fixups at f e here others =
    subst (λ (fs : List Fixup). FeasibleFrom l (index_after (take at fixups) 0) fs) (sym (drop-here fixups at f e))
    (here, subst (λ (i : ℕ). FeasibleFrom l i (drop (at + 1) fixups)) (index_next fixups at f e) others)

pub feasible-there : (l : Labels) (index : ℕ) (fixups : List Fixup) (at : ℕ) (f : Fixup) → slice_get fixups at ≡ Some f → FeasibleFrom l index fixups → FeasibleAt l (index_after (take at fixups) index) f (drop (at + 1) fixups)
feasible-there l index [] at f e feasible = absurd (cc)
feasible-there l index (g ∷ fixups) zero f e feasible =
    let same : g ≡ f = cc in
    subst (λ (h : Fixup). FeasibleAt l index h fixups) same feasible.0
feasible-there l index (g ∷ fixups) (suc at) f e feasible =
    let step : suc at + 1 ≡ suc (at + 1) = omega arith in
    subst (λ (n : ℕ). FeasibleAt l (index_after (take at fixups) (index_past g.base index)) f (drop n (g ∷ fixups))) (sym step)
    (feasible-there l (index_past g.base index) fixups at f e feasible.1)

-- labels in order after a fixup
all_drop : {A : Type 0} (P : A → Type 0) (xs : List A) (n : ℕ) → AllByRecursion P xs → AllByRecursion P (drop n xs)
all_drop P xs zero all = all
all_drop P [] (suc n) all = tt
all_drop P (x ∷ xs) (suc n) all = all_drop P xs n all.1

world_left : (claim : Claim) (index at : ℕ) → Shaped claim → FeasibleFrom (labels_claimed claim) index (drop at claim.fixups.now) → World (labels_claimed claim) index (drop at claim.fixups.now)
world_left claim index at shaped feasible = record {
  numbers = numbers claim.fixups.now (labels_claimed claim) shaped.fit shaped.registers;
  registered = all_drop (λ (f : Fixup). RegisteredBase claim.registers.now f.base) claim.fixups.now at (all_registered claim.fixups.now claim.registers.now shaped.registers);
  feasible = feasible;
}

small_fixups : (fixups : List Fixup) → fixups_fit fixups ≡ true → length fixups ≤ most_fixups
unfolding fixups_fit
small_fixups fixups fit = leb-true (length fixups) most_fixups (and_parts (nat_le (length fixups) most_fixups) (fixups_from 0 fixups) fit).0

-- the value of a skip is small
pub skip-small : (claim : Claim) (at k c x : ℕ) (f : Fixup) → Shaped claim → slice_get claim.fixups.now at ≡ Some f → f.base ≡ Section k → FeasibleFrom (labels_claimed claim) (index_after (take (at + 1) claim.fixups.now) 0) (drop (at + 1) claim.fixups.now) → c < length claim.registers.now + 1 → skips_at (labels_claimed claim) f (drop (at + 1) claim.fixups.now) c (class_of claim.registers.now k) ≡ Some x → x < 2 ^ 32
skip-small claim at k c x f shaped here base beyond under e =
    let l = labels_claimed claim in
    let rest = drop (at + 1) claim.fixups.now in
    let low = skip-low l f rest c k x base e in
    let fit = all_drop (λ (g : Fixup). fixup_fits g ≡ true) claim.fixups.now (at + 1) (each_fits claim.fixups.now shaped.fit) in
    let most = extension-small l (index_after (take (at + 1) claim.fixups.now) 0) rest (f.offset + 4) c (class_of claim.registers.now k) (world_left claim _ (at + 1) shaped beyond) fit under (class_of-below l k) in
    let few = small_fixups claim.fixups.now shaped.fit in
    omega (arith, low, most, few, length-drop (at + 1) claim.fixups.now)

-- the least skips of a fixup are its least offers
pub section-offers : (claim : Claim) (at k : ℕ) (f : Fixup) (least : List ℕ) → Shaped claim → slice_get claim.fixups.now at ≡ Some f → f.base ≡ Section k → FeasibleFrom (labels_claimed claim) (index_after (take (at + 1) claim.fixups.now) 0) (drop (at + 1) claim.fixups.now) → ((c : ℕ) → c < length claim.registers.now + 1 → skips_at (labels_claimed claim) f (drop (at + 1) claim.fixups.now) c (class_of claim.registers.now k) ≡ Some (slice_index least c)) → SkipsAre claim f (drop (at + 1) claim.fixups.now) least
section-offers claim at k f least shaped here base beyond are = λ c d under_c under_d.
    let l = labels_claimed claim in
    let rest = drop (at + 1) claim.fixups.now in
    let is : offer_at l f rest c d ≡ Some (change d (class_of claim.registers.now k) + slice_index least c) = offer-section l (index_after (take (at + 1) claim.fixups.now) 0) f rest c d k (slice_index least c) (world_left claim _ (at + 1) shaped beyond) base (section-counts claim at k f shaped here base) under_c (are c under_c) in
    subst (λ (b : Base). OfferIs l f rest c d (slice_index least c) b) (sym base) is

pub import-offers : (claim : Claim) (k : ℕ) (f : Fixup) (rest : List Fixup) (least : List ℕ) → f.base ≡ Import k → SkipsAre claim f rest least
import-offers claim k f rest least base = λ c d under_c under_d.
    let l = labels_claimed claim in
    subst (λ (b : Base). OfferIs l f rest c d (slice_index least c) b) (sym base) (offer-import l f rest c d k base)

-- the labels of the last row
pub zero-last : (registers row : List ℕ) (rows : List (List ℕ)) (n : ℕ) → row ≡ slice_index_or rows n [] → length row ≡ (length registers + 1) * (length registers + 1) → RowIsZero row → (c d : ℕ) → c < length registers + 1 → d < length registers + 1 → (labels_in registers rows n).label 0 c d ≡ 0
zero-last registers row rows n is square all c d under_c under_d =
    let end : n - 0 ≡ n = omega arith in
    let inside = place_under (length registers + 1) c d under_c under_d in
    ap (λ (i : ℕ). slice_index (slice_index_or rows i []) (c * (length registers + 1) + d)) end
    ∙ (ap (λ (r : List ℕ). slice_index r (c * (length registers + 1) + d)) (sym is)
    ∙ all (c * (length registers + 1) + d) (omega (arith, inside, square)))

pub last-zero : (registers row : List ℕ) (rows : List (List ℕ)) (n : ℕ) → row ≡ slice_index_or rows n [] → length row ≡ (length registers + 1) * (length registers + 1) → ((c d : ℕ) → c < length registers + 1 → d < length registers + 1 → (labels_in registers rows n).label 0 c d ≡ 0) → RowIsZero row
last-zero registers row rows n is square all k under =
    let r : ℕ = length registers + 1 in
    let some : 0 < r = omega arith in
    let under_c : k / r < r = (div-lt_iff_lt-mul some).1 (omega (arith, under, square)) in
    let under_d : k % r < r = mod-lt k some in
    let end : n - 0 ≡ n = omega arith in
    let place : k / r * r + k % r ≡ k = add_comm (k / r * r) (k % r) ∙ (ap (λ m. k % r + m) (mul_comm (k / r) r) ∙ mod-add-div k r) in
    sym (ap (λ (m : ℕ). slice_index row m) place)
    ∙ (ap (λ (x : List ℕ). slice_index x (k / r * r + k % r)) is
    ∙ (sym (ap (λ (i : ℕ). slice_index (slice_index_or rows i []) (k / r * r + k % r)) end)
    ∙ all (k / r) (k % r) under_c under_d))

-- at the end no fixup is left
pub feasible-end : (l : Labels) (index : ℕ) (fixups : List Fixup) → FeasibleFrom l index (drop (length fixups) fixups)
feasible-end l index fixups = subst (λ (fs : List Fixup). FeasibleFrom l index fs) (sym (drop_all (length fixups) fixups (omega arith))) tt

-- labels that are feasible from the first fixup on, and 0 in the last row
pub feasible-whole : (l : Labels) (fixups : List Fixup) (at : ℕ) → at ≡ 0 → ((c d : ℕ) → c < classes l → d < classes l → l.label 0 c d ≡ 0) → FeasibleFrom l (index_after (take at fixups) 0) (drop at fixups) → Feasible l fixups
feasible-whole l fixups at is last each = record {
  last = last;
  each = subst (λ (n : ℕ). FeasibleFrom l (index_after (take n fixups) 0) (drop n fixups)) is each;
}

-- a claim has a kept row
pub row-exists : (claim : Claim) → Shaped claim → 0 < length claim.kept.ends.now
row-exists claim shaped =
    let n = length claim.fixups.now in
    let row = row-last claim.kept.width n claim.kept.ends.now claim.kept.values.now shaped.full shaped.rows in
    let kept = row.kept in
    omega (arith, kept)
