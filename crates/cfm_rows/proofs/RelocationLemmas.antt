-- The relocation headers of a fragment, one after the other.
use Rattle.std.proofs.Common.{◌≡◌, ◌+◌, ◌-◌, ◌==◌, ◌<◌, ◌≤◌, ℕ, suc, [], ◌++◌, refl, arith}
use Rattle.pef_loader.specs.Loader.{Loaded, reloc_of}
use Rattle.cfm_rows.specs.Relocations.{relocation_elements, relocation_row}

pub relocations-more : (l : Loaded) (k n : ℕ) → k < n → relocation_elements l k (n - k) ≡ relocation_row (k == 0) (reloc_of l k) ++ relocation_elements l (k + 1) (n - (k + 1))
relocations-more l k n under =
    let e : n - k ≡ suc (n - (k + 1)) = omega arith in
    rw e refl

pub relocations-none : (l : Loaded) (k n : ℕ) → n ≤ k → relocation_elements l k (n - k) ≡ []
relocations-none l k n past =
    let e : n - k ≡ 0 = omega arith in
    rw e refl
