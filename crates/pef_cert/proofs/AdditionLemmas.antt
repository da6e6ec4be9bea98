-- The facts of fixups that a check needs: the import index, and the next base.
use Rattle.std.proofs.Common.{◌≡◌, ℕ, ◌+◌, ◌-◌, ◌<◌, ◌≤◌, Bool, true, List, [], ◌∷◌, length, take, drop, Some, ap, sym, ◌∙◌, arith, slice_get}
use Rattle.std.specs.Prelude.{slice_index_or}
use Rattle.std.proofs.lemmas.Bool.{ltb-true}
use Rattle.std.proofs.lemmas.List.{take_more}
use Rattle.pef_reloc.specs.declared.fixup.Base.{Base}
use Rattle.pef_reloc.specs.declared.fixup.Base.TheVariants.{Section, Import}
use Rattle.pef_reloc.specs.declared.fixup.Fixup.{Fixup}
use Rattle.pef_reloc.specs.Deliveries.{index_after, index_past}
use Rattle.pef_reloc.specs.Fixups.{base_fits, fixup_fits}
use Rattle.pef_reloc.specs.Limits.{most_imports}
use Rattle.pef_reloc.proofs.Laws.{each_fits, fixup_fits-parts, index_after-append}
use Rattle.pef_words.proofs.Laws.Lists.{all-get, drop-here}
use Rattle.pef_cert.specs.declared.claim.Claim.{Claim}
use Rattle.pef_cert.specs.Labels.{Labels}
use Rattle.pef_cert.specs.Kept.Claims.{Shaped}
use Rattle.pef_cert.specs.LabelTests.{pair_test, second_test}

-- each of fixups that fit fits
pub got-fits : (c : Claim) (at : ℕ) (f : Fixup) → Shaped c → slice_get c.fixups.now at ≡ Some f → fixup_fits f ≡ true
got-fits c at f shaped e = all-get (λ (g : Fixup). fixup_fits g ≡ true) c.fixups.now at f (each_fits c.fixups.now shaped.fit) e

import_small : (b : Base) (k : ℕ) → b ≡ Import k → base_fits b ≡ true → k < most_imports
import_small b k is fits = ltb-true k most_imports (sym (ap base_fits is) ∙ fits)

pub got-import : (c : Claim) (at k : ℕ) (f : Fixup) → Shaped c → slice_get c.fixups.now at ≡ Some f → f.base ≡ Import k → k < most_imports
got-import c at k f shaped e is = import_small f.base k is (fixup_fits-parts f (got-fits c at f shaped e)).base

-- the import index after a fixup
pub index_later : (fixups : List Fixup) (i : ℕ) (f : Fixup) → i < length fixups → index_after (take (i + 1) fixups) 0 ≡ index_past (slice_index_or fixups i f).base (index_after (take i fixups) 0)
index_later fixups i f under =
    ap (λ fs. index_after fs 0) (take_more fixups i f under) ∙ index_after-append (take i fixups) (slice_index_or fixups i f ∷ []) 0

pub index-import : (fixups : List Fixup) (at i k : ℕ) (f : Fixup) → 0 < i → i ≤ length fixups → index_after (take i fixups) 0 ≡ index_after (take at fixups) 0 → (slice_index_or fixups (i - 1) f).base ≡ Import k → k + 1 ≡ index_after (take at fixups) 0
index-import fixups at i k f some under same is =
    let step : i ≡ i - 1 + 1 = omega arith in
    sym (ap (λ b. index_past b (index_after (take (i - 1) fixups) 0)) is)
    ∙ (sym (index_later fixups (i - 1) f (omega arith))
    ∙ (sym (ap (λ n. index_after (take n fixups) 0) step) ∙ same))

pub index-section : (fixups : List Fixup) (at i k : ℕ) (f : Fixup) → 0 < i → i ≤ length fixups → index_after (take i fixups) 0 ≡ index_after (take at fixups) 0 → (slice_index_or fixups (i - 1) f).base ≡ Section k → index_after (take (i - 1) fixups) 0 ≡ index_after (take at fixups) 0
index-section fixups at i k f some under same is =
    let step : i ≡ i - 1 + 1 = omega arith in
    sym (ap (λ b. index_past b (index_after (take (i - 1) fixups) 0)) is)
    ∙ (sym (index_later fixups (i - 1) f (omega arith))
    ∙ (sym (ap (λ n. index_after (take n fixups) 0) step) ∙ same))

-- the test of the next base
pub second-some : (l : Labels) (label k c d : ℕ) (f g : Fixup) (fixups : List Fixup) (at : ℕ) (x : Bool) → slice_get fixups at ≡ Some f → slice_get fixups (at + 1) ≡ Some g → x ≡ pair_test l label k c d f.offset (drop at fixups) g.base → x ≡ second_test l label k c d f (drop (at + 1) fixups)
second-some l label k c d f g fixups at x here next is =
    let more = drop-here fixups (at + 1) g next in
    let whole = drop-here fixups at f here ∙ ap (λ fs. f ∷ fs) more in
    is ∙ (ap (λ fs. pair_test l label k c d f.offset fs g.base) whole ∙ sym (ap (second_test l label k c d f) more))
