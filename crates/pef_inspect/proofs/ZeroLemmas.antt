-- Zero rows, as they are counted one after the other.
use Rattle.std.proofs.Common.{◌≡◌, ℕ, suc, ◌+◌, ◌-◌, ◌<◌, true, false, arith, refl}
use Rattle.pef_views.specs.Container.{Contained}
use Rattle.pef_inspect.specs.Zeros.{is_zero_row, zeros_from}
use Rattle.pef_inspect.specs.declared.zeros.Table.{Table}

pub zeros-next : (c : Contained) (t : Table) (i n : ℕ) → i < n → is_zero_row c t i ≡ true → zeros_from c t i (n - i) ≡ suc (zeros_from c t (i + 1) (n - (i + 1)))
zeros-next c t i n under zero =
    let e : n - i ≡ suc (n - (i + 1)) = omega arith in
    rw (e, zero) refl

pub zeros-here : (c : Contained) (t : Table) (i n : ℕ) → i < n → is_zero_row c t i ≡ false → zeros_from c t i (n - i) ≡ 0
zeros-here c t i n under other =
    let e : n - i ≡ suc (n - (i + 1)) = omega arith in
    rw (e, other) refl
