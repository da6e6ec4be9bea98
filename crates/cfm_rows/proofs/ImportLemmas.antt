-- The imports of a fragment, one after the other.
use Rattle.std.proofs.Common.{◌≡◌, ◌+◌, ◌-◌, ◌==◌, ◌<◌, ◌≤◌, ℕ, suc, [], ◌++◌, refl, arith}
use Rattle.cfm_prepare.specs.Contexts.{ContextState}
use Rattle.pef_loader.specs.Loader.{Loaded}
use Rattle.cfm_rows.specs.Imports.{import_at, import_element, import_elements}

pub imports-more : (s : ContextState) (number p : ℕ) (l : Loaded) (j n : ℕ) → j < n
    → import_elements s number p l j (n - j) ≡ import_element (j == 0) (import_at s number p l j) ++ import_elements s number p l (j + 1) (n - (j + 1))
imports-more s number p l j n under =
    let e : n - j ≡ suc (n - (j + 1)) = omega arith in
    rw e refl

pub imports-none : (s : ContextState) (number p : ℕ) (l : Loaded) (j n : ℕ) → n ≤ j → import_elements s number p l j (n - j) ≡ []
imports-none s number p l j n past =
    let e : n - j ≡ 0 = omega arith in
    rw e refl
