-- Runs of additions, word by word.
use Rattle.std.proofs.Common.{◌≡◌, ℕ, suc, ◌+◌, ◌-◌, ◌<◌, ◌≤◌, List, [], ◌∷◌, map, length, nat_lt, false, None, Some, refl, arith, ◌∙◌}
use Rattle.pef_reloc.specs.declared.stop.Stop.{Stop}
use Rattle.pef_reloc.specs.declared.stop.Stop.TheVariants.{NoImport}
use Rattle.pef_reloc.specs.declared.fixup.Base.{Base}
use Rattle.pef_reloc.specs.declared.fixup.Base.TheVariants.{Import}
use Rattle.pef_reloc.specs.Steps.{add, added, row, pairs, numbered}
use Rattle.pef_reloc.specs.Applied.{Addresses, applied}
use Rattle.pef_reloc.specs.Kept.Rows.{word_added}
use Rattle.pef_reloc.specs.Kept.Rows.{Stands}
use Rattle.pef_reloc.proofs.Acts.{word-next, word-fault, import-fault}

-- no additions are left
pub row-end : (n i p w : ℕ) (b : Base) → n ≤ i → row (n - i) p w b ≡ []
unfolding row
row-end n i p w b past = let e : n - i ≡ 0 = omega arith in rw e refl

pub row-more : (n i p w : ℕ) (b : Base) → i < n → row (n - i) p w b ≡ added p b ∷ row (n - (i + 1)) (p + w) w b
unfolding row
row-more n i p w b under = let e : n - i ≡ suc (n - (i + 1)) = omega arith in rw e refl

pub row-next : (a : Addresses) (b : Base) (x n i p w : ℕ) (memory memory' : List ℕ) → i < n → Stands a b x → word_added memory p x ≡ record { memory = memory'; fault = None } → applied a (map add (row (n - i) p w b)) memory ≡ applied a (map add (row (n - (i + 1)) (p + w) w b)) memory'
row-next a b x n i p w memory memory' under stands e =
    rw (row-more n i p w b under) (word-next a b x p _ memory memory' stands e)

pub row-fault : (a : Addresses) (b : Base) (x n i p w : ℕ) (memory memory' : List ℕ) (f : Stop) → i < n → Stands a b x → word_added memory p x ≡ record { memory = memory'; fault = Some f } → applied a (map add (row (n - i) p w b)) memory ≡ record { memory = memory'; fault = Some f }
row-fault a b x n i p w memory memory' f under stands e =
    rw (row-more n i p w b under) (word-fault a b x p _ memory memory' f stands e)

pub pairs-end : (n i p w : ℕ) (b b' : Base) → n ≤ i → pairs (n - i) p w b b' ≡ []
unfolding pairs
pairs-end n i p w b b' past = let e : n - i ≡ 0 = omega arith in rw e refl

pub pairs-more : (n i p w : ℕ) (b b' : Base) → i < n → pairs (n - i) p w b b' ≡ added p b ∷ added (p + 4) b' ∷ pairs (n - (i + 1)) (p + w) w b b'
unfolding pairs
pairs-more n i p w b b' under = let e : n - i ≡ suc (n - (i + 1)) = omega arith in rw e refl

-- nothing left to do
pub nothing_done : (a : Addresses) (memory : List ℕ) → applied a [] memory ≡ record { memory = memory; fault = None }
unfolding applied
nothing_done a memory = refl

pub row-done : (a : Addresses) (b : Base) (n i p w : ℕ) (memory : List ℕ) → n ≤ i → applied a (map add (row (n - i) p w b)) memory ≡ record { memory = memory; fault = None }
row-done a b n i p w memory past = rw (row-end n i p w b past) (nothing_done a memory)

pub pairs-done : (a : Addresses) (b b' : Base) (n i p w : ℕ) (memory : List ℕ) → n ≤ i → applied a (map add (pairs (n - i) p w b b')) memory ≡ record { memory = memory; fault = None }
pairs-done a b b' n i p w memory past = rw (pairs-end n i p w b b' past) (nothing_done a memory)

pub pairs-next : (a : Addresses) (b b' : Base) (x y n i p w : ℕ) (memory half memory' : List ℕ) → i < n → Stands a b x → Stands a b' y → word_added memory p x ≡ record { memory = half; fault = None } → word_added half (p + 4) y ≡ record { memory = memory'; fault = None } → applied a (map add (pairs (n - i) p w b b')) memory ≡ applied a (map add (pairs (n - (i + 1)) (p + w) w b b')) memory'
pairs-next a b b' x y n i p w memory half memory' under first second e f =
    rw (pairs-more n i p w b b' under) (word-next a b x p _ memory half first e ∙ word-next a b' y (p + 4) _ half memory' second f)

pub pairs-fault : (a : Addresses) (b b' : Base) (x n i p w : ℕ) (memory memory' : List ℕ) (f : Stop) → i < n → Stands a b x → word_added memory p x ≡ record { memory = memory'; fault = Some f } → applied a (map add (pairs (n - i) p w b b')) memory ≡ record { memory = memory'; fault = Some f }
pairs-fault a b b' x n i p w memory memory' f under stands e =
    rw (pairs-more n i p w b b' under) (word-fault a b x p _ memory memory' f stands e)

pub pairs-fault_second : (a : Addresses) (b b' : Base) (x y n i p w : ℕ) (memory half memory' : List ℕ) (f : Stop) → i < n → Stands a b x → Stands a b' y → word_added memory p x ≡ record { memory = half; fault = None } → word_added half (p + 4) y ≡ record { memory = memory'; fault = Some f } → applied a (map add (pairs (n - i) p w b b')) memory ≡ record { memory = memory'; fault = Some f }
pairs-fault_second a b b' x y n i p w memory half memory' f under first second e g =
    rw (pairs-more n i p w b b' under) (word-next a b x p _ memory half first e ∙ word-fault a b' y (p + 4) _ half memory' f second g)

pub numbered-end : (n i p m : ℕ) → n ≤ i → numbered (n - i) p m ≡ []
unfolding numbered
numbered-end n i p m past = let e : n - i ≡ 0 = omega arith in rw e refl

pub numbered-more : (n i p m : ℕ) → i < n → numbered (n - i) p m ≡ added p (Import m) ∷ numbered (n - (i + 1)) (p + 4) (m + 1)
unfolding numbered
numbered-more n i p m under = let e : n - i ≡ suc (n - (i + 1)) = omega arith in rw e refl

pub numbered-done : (a : Addresses) (n i p m : ℕ) (memory : List ℕ) → n ≤ i → applied a (map add (numbered (n - i) p m)) memory ≡ record { memory = memory; fault = None }
numbered-done a n i p m memory past = rw (numbered-end n i p m past) (nothing_done a memory)

pub numbered-next : (a : Addresses) (x n i p m : ℕ) (memory memory' : List ℕ) → i < n → Stands a (Import m) x → word_added memory p x ≡ record { memory = memory'; fault = None } → applied a (map add (numbered (n - i) p m)) memory ≡ applied a (map add (numbered (n - (i + 1)) (p + 4) (m + 1))) memory'
numbered-next a x n i p m memory memory' under stands e =
    rw (numbered-more n i p m under) (word-next a (Import m) x p _ memory memory' stands e)

pub numbered-fault : (a : Addresses) (x n i p m : ℕ) (memory memory' : List ℕ) (f : Stop) → i < n → Stands a (Import m) x → word_added memory p x ≡ record { memory = memory'; fault = Some f } → applied a (map add (numbered (n - i) p m)) memory ≡ record { memory = memory'; fault = Some f }
numbered-fault a x n i p m memory memory' f under stands e =
    rw (numbered-more n i p m under) (word-fault a (Import m) x p _ memory memory' f stands e)

pub numbered-missing : (a : Addresses) (n i p m : ℕ) (memory : List ℕ) → i < n → nat_lt m (length a.imports) ≡ false → applied a (map add (numbered (n - i) p m)) memory ≡ record { memory = memory; fault = Some (NoImport p) }
numbered-missing a n i p m memory under e =
    rw (numbered-more n i p m under) (import-fault a m p _ memory e)

-- one import is a run of one
pub numbered_one : (p m : ℕ) → numbered 1 p m ≡ added p (Import m) ∷ []
unfolding numbered
numbered_one p m = refl
