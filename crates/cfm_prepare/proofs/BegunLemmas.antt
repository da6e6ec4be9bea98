-- New fragments, from their placing to the end of their preparation or its first refusal.
use Rattle.std.proofs.Common.{◌≡◌, ℕ, zero, suc, ◌<◌, Bool, true, false, List, [], ◌∷◌, ◌++◌, None, Some, Result, Ok, Err, All, Contains, OnOk, IfErr, length, get_or, cond, refl, sym, ap, subst, ◌∙◌, arith}
use Rattle.cfm_memory.specs.Extents.{Rule}
use Rattle.cfm_memory.specs.Instances.{Layout}
use Rattle.cfm_store.specs.Stores.{Pair}
use Rattle.cfm_prepare.specs.Addresses.{first_bad_program, section_of}
use Rattle.cfm_prepare.specs.Lists.{has}
use Rattle.cfm_prepare.specs.Fragments.{Present, StandAll, first_bad_image, is_present, new_among}
use Rattle.cfm_prepare.specs.Placing.{AreNewBy, ArePreparedBy}
use Rattle.cfm_prepare.specs.Refusals.{MayNotPrepareNewBy}
use Rattle.cfm_prepare.specs.Kept.Begun.{HavePlacedWith, section_placed}
use Rattle.cfm_prepare.specs.Kept.Ready.{AllHeld, AreAbsent, AreLaidOut, AreReady, ChangesIn, FillsUpTo, HaveBegun, HavePlaced, RelocatesUpTo, found_in}
use Rattle.cfm_prepare.specs.declared.fragment_fault.FragmentFault.{FragmentFault}
use Rattle.cfm_prepare.specs.declared.fragment_fault.FragmentFault.TheVariants as fault
use Rattle.cfm_prepare.proofs.FilledLemmas.{have-back, have-held, have-stand}
use Rattle.cfm_prepare.proofs.FoundLemmas.{found-fresh, present-has}
use Rattle.cfm_prepare.proofs.ListLemmas.{contains-next}
use Rattle.cfm_prepare.proofs.PlacedLemmas.{placed-apart, placed-back, placed-fit, placed-held, placed-own}
use Rattle.cfm_prepare.proofs.ReadyLemmas.{held-rejoined, ready-after}

-- the fragments that were placed can be released
pub begun-of : {rule : Rule} (pairs : List Pair) (m : Layout) (there now : List Present) (ps new : List ℕ) (after : Layout) → AreReady m there → ((p : ℕ) → has ps p ≡ true → has new p ≡ true) → HavePlacedWith rule pairs m there ps now after → HaveBegun m there new now after
begun-of {rule} pairs m there now ps new after ready inside all =
    let fresh = all.have.fresh in
    let back = have-back pairs m there now ps after all in
    record {
      fresh = fresh;
      behind = all.have.behind;
      are = λ p there. inside p (ap (λ qs. has qs p) (sym all.have.are) ∙ (sym (present-has fresh p) ∙ there));
      others = back;
      ready = subst (λ fs. AreReady after fs) (sym all.have.behind)
          (held-rejoined all.empty after there fresh (ready-after rule pairs m there fresh all.empty ready all.have.placed) (have-held pairs m there now ps after all) (back ∙ sym (placed-back rule pairs m fresh all.empty all.have.placed)));
    }

-- new fragments that were placed, as they are found among all, can be filled and relocated
pub found-laid : {rule : Rule} (pairs : List Pair) (m mid : Layout) (there now : List Present) (ps : List ℕ) → AreAbsent there ps → HavePlaced rule pairs m there ps now mid → AreLaidOut pairs (found_in now ps)
found-laid {rule} pairs m mid there now ps absent have =
    let laid : AreLaidOut pairs have.fresh = record {
      each = λ i under. record { fits = placed-fit rule pairs m have.fresh mid have.placed i under; own = placed-own rule pairs m have.fresh mid have.placed i under };
      apart = placed-apart rule pairs m have.fresh mid have.placed;
    } in
    subst (λ (fs : List Present). AreLaidOut pairs fs) (sym (found-fresh pairs m mid there now ps absent have)) laid

pub found-placed : {rule : Rule} (pairs : List Pair) (m mid : Layout) (there now : List Present) (ps : List ℕ) → AreAbsent there ps → HavePlacedWith rule pairs m there ps now mid → StandAll mid (found_in now ps) (λ (f : Present). section_placed pairs f.position)
found-placed pairs m mid there now ps absent all =
    subst (λ (fs : List Present). StandAll mid fs (λ (f : Present). section_placed pairs f.position)) (sym (found-fresh pairs m all.empty there now ps absent all.have)) (have-stand pairs m there now ps mid all)

-- so far they alone changed
pub found-changes : {rule : Rule} (pairs : List Pair) (m mid : Layout) (there now : List Present) (ps : List ℕ) → AreAbsent there ps → (all : HavePlacedWith rule pairs m there ps now mid) → ChangesIn all.empty (found_in now ps) mid
found-changes {rule} pairs m mid there now ps absent all =
    let fresh = all.have.fresh in
    subst (λ (fs : List Present). ChangesIn all.empty fs mid) (sym (found-fresh pairs m all.empty there now ps absent all.have))
    (record { others = have-back pairs m there now ps mid all ∙ sym (placed-back rule pairs m fresh all.empty all.have.placed); held = λ was. have-held pairs m there now ps mid all })

pub found-held : {rule : Rule} (pairs : List Pair) (m mid : Layout) (there now : List Present) (ps : List ℕ) → AreAbsent there ps → HavePlacedWith rule pairs m there ps now mid → AllHeld mid (found_in now ps)
found-held pairs m mid there now ps absent all =
    subst (λ (fs : List Present). AllHeld mid fs) (sym (found-fresh pairs m all.empty there now ps absent all.have)) (have-held pairs m there now ps mid all)

-- a change after another one
pub changes-then : (m mid after : Layout) (fs : List Present) → ChangesIn m fs mid → ChangesIn mid fs after → ChangesIn m fs after
changes-then m mid after fs first second = record { others = second.others ∙ first.others; held = λ was. second.held (first.held was) }

-- when they have changed they can still be released
pub begun-after : {rule : Rule} (pairs : List Pair) (m : Layout) (there now : List Present) (ps : List ℕ) (mid after : Layout) → AreAbsent there ps → HavePlaced rule pairs m there ps now mid → AreReady m there → ChangesIn mid (found_in now ps) after → HaveBegun m there ps now after
begun-after {rule} pairs m there now ps mid after absent have ready changes =
    let fresh = subst (λ (fs : List Present). ChangesIn mid fs after) (found-fresh pairs m mid there now ps absent have) changes in
    let held = fresh.held (placed-held rule pairs m have.fresh mid have.placed) in
    record {
      fresh = have.fresh;
      behind = have.behind;
      are = λ p there. ap (λ qs. has qs p) (sym have.are) ∙ (sym (present-has have.fresh p) ∙ there);
      others = fresh.others ∙ placed-back rule pairs m have.fresh mid have.placed;
      ready = subst (λ fs. AreReady after fs) (sym have.behind) (held-rejoined mid after there have.fresh (ready-after rule pairs m there have.fresh mid ready have.placed) held fresh.others);
    }

new-of : {rule : Rule} (pairs : List Pair) (m : Layout) (there now : List Present) (ps : List ℕ) (mid : Layout) (have : HavePlaced rule pairs m there ps now mid) → AreNewBy rule pairs m ps have.fresh
new-of pairs m there now ps mid have = record { are = have.are; empty = mid; placed = have.placed }

-- all steps succeeded, or one was refused
pub prepared-after : {A : Type 0} {rule : Rule} (r : Result A FragmentFault) (pairs : List Pair) (m : Layout) (there now : List Present) (ps : List ℕ) (mid after : Layout) → AreAbsent there ps → HavePlaced rule pairs m there ps now mid
    → first_bad_image pairs (found_in now ps) ≡ None → ChangesIn mid (found_in now ps) after
    → RelocatesUpTo r (first_bad_program pairs now (found_in now ps)) → OnOk r (StandAll after (found_in now ps) (section_of pairs now))
    → OnOk r ((fresh : List Present) × (now ≡ there ++ fresh) × ArePreparedBy rule pairs there m ps fresh after)
prepared-after (Err e) pairs m there now ps mid after absent have filled changes relocated stand = tt
prepared-after {rule = rule} (Ok x) pairs m there now ps mid after absent have filled changes relocated stand =
    let same = found-fresh pairs m mid there now ps absent have in
    let fresh = subst (λ (fs : List Present). ChangesIn mid fs after) same changes in (
      have.fresh,
      have.behind,
      record {
        are = new-of pairs m there now ps mid have;
        others = fresh.others ∙ placed-back rule pairs m have.fresh mid have.placed;
        filled = ap (first_bad_image pairs) (sym same) ∙ filled;
        relocated = subst (λ fs. first_bad_program pairs fs have.fresh ≡ None) have.behind (ap (first_bad_program pairs now) (sym same) ∙ relocated);
        stand = subst (λ fs. StandAll after have.fresh (section_of pairs fs)) have.behind (subst (λ (fs : List Present). StandAll after fs (section_of pairs now)) same stand);
      },
    )

pub image-refused : {rule : Rule} (e : FragmentFault) (pairs : List Pair) (m : Layout) (there now : List Present) (ps : List ℕ) (mid : Layout) → AreAbsent there ps → HavePlaced rule pairs m there ps now mid
    → FillsUpTo {A = Unit {0}} (Err e) (first_bad_image pairs (found_in now ps)) → MayNotPrepareNewBy rule pairs there m ps e
image-refused (fault.NoRoom f place) pairs m there now ps mid absent have refused = absurd refused
image-refused (fault.Pack f k place) pairs m there now ps mid absent have refused =
    record { fresh = have.fresh; are = new-of pairs m there now ps mid have; first = ap (first_bad_image pairs) (sym (found-fresh pairs m mid there now ps absent have)) ∙ refused }
image-refused (fault.Reloc f k section place) pairs m there now ps mid absent have refused = absurd refused
image-refused fault.OutOfMemory pairs m there now ps mid absent have refused = absurd refused

program-refused : {rule : Rule} (e : FragmentFault) (pairs : List Pair) (m : Layout) (there now : List Present) (ps : List ℕ) (mid : Layout) → AreAbsent there ps → HavePlaced rule pairs m there ps now mid
    → first_bad_image pairs (found_in now ps) ≡ None → RelocatesUpTo {A = Unit {0}} (Err e) (first_bad_program pairs now (found_in now ps)) → MayNotPrepareNewBy rule pairs there m ps e
program-refused (fault.NoRoom f place) pairs m there now ps mid absent have filled refused = absurd refused
program-refused (fault.Pack f k place) pairs m there now ps mid absent have filled refused = absurd refused
program-refused (fault.Reloc f k section place) pairs m there now ps mid absent have filled refused =
    let same = found-fresh pairs m mid there now ps absent have in
    record {
      fresh = have.fresh;
      are = new-of pairs m there now ps mid have;
      filled = ap (first_bad_image pairs) (sym same) ∙ filled;
      first = subst (λ fs. first_bad_program pairs fs have.fresh ≡ Some (f.now, record { fault = k; section = section; place = place })) have.behind (ap (first_bad_program pairs now) (sym same) ∙ refused);
    }
program-refused fault.OutOfMemory pairs m there now ps mid absent have filled refused = tt

pub relocating-refused : {A : Type 0} {rule : Rule} (r : Result A FragmentFault) (pairs : List Pair) (m : Layout) (there now : List Present) (ps : List ℕ) (mid : Layout) → AreAbsent there ps → HavePlaced rule pairs m there ps now mid
    → first_bad_image pairs (found_in now ps) ≡ None → RelocatesUpTo r (first_bad_program pairs now (found_in now ps)) → IfErr r (λ e. MayNotPrepareNewBy rule pairs there m ps e)
relocating-refused (Ok x) pairs m there now ps mid absent have filled refused = tt
relocating-refused (Err e) pairs m there now ps mid absent have filled refused = program-refused e pairs m there now ps mid absent have filled refused

-- the new fragments of a closure are of it
new-at : (b : Bool) (p : ℕ) (ps new : List ℕ) → ((k d : ℕ) → k < length new → Contains ps (get_or new k d)) → (k d : ℕ) → k < length (cond b new (p ∷ new)) → Contains (p ∷ ps) (get_or (cond b new (p ∷ new)) k d)
new-at true p ps new each k d under = contains-next p (get_or new k d) ps (each k d under)
new-at false p ps new each zero d under = (0, omega arith, refl)
new-at false p ps new each (suc k) d under = contains-next p (get_or new k d) ps (each k d (omega (arith, under)))

pub new-members : (fs : List Present) (order : List ℕ) → All (λ p. Contains order p) (new_among fs order)
new-members fs [] k d under = absurd (omega (arith, under))
new-members fs (p ∷ ps) k d under = new-at (is_present fs p) p ps (new_among fs ps) (new-members fs ps) k d under

pub are-members : (there : List Present) (order whole new : List ℕ) → order ≡ whole → new ≡ new_among there order → All (λ p. Contains whole p) new
are-members there order whole new order_is new_is =
    let P : List ℕ → Type 0 = λ ps. All (λ p. Contains whole p) ps in
    subst P (sym (new_is ∙ ap (new_among there) order_is)) (new-members there whole)
