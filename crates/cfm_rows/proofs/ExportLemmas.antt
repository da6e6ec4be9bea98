-- The exports of a fragment, one after the other.
use Rattle.std.proofs.Common.{◌≡◌, ◌+◌, ◌-◌, ◌==◌, ◌<◌, ◌≤◌, ℕ, suc, [], ◌++◌, refl, arith}
use Rattle.cfm_prepare.specs.Contexts.{ContextState}
use Rattle.cfm_rows.specs.Exports.{export_element, export_elements, export_in}

pub exports-more : (s : ContextState) (number p i n : ℕ) → i < n
    → export_elements s number p i (n - i) ≡ export_element (i == 0) (export_in s number p i) ++ export_elements s number p (i + 1) (n - (i + 1))
exports-more s number p i n under =
    let e : n - i ≡ suc (n - (i + 1)) = omega arith in
    rw e refl

pub exports-none : (s : ContextState) (number p i n : ℕ) → n ≤ i → export_elements s number p i (n - i) ≡ []
exports-none s number p i n past =
    let e : n - i ≡ 0 = omega arith in
    rw e refl
