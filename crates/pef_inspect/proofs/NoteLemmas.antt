-- The sections that may be instantiated, as they are counted one after the other.
use Rattle.std.proofs.Common.{◌≡◌, ℕ, suc, ◌+◌, ◌-◌, ◌<◌, arith, refl}
use Rattle.pef_views.specs.Container.{Contained}
use Rattle.pef_inspect.specs.Oddities.{instantiable_among, instantiable_at}

pub instantiable-next : (c : Contained) (i n : ℕ) → i < n → instantiable_among c i (n - i) ≡ instantiable_at c i + instantiable_among c (i + 1) (n - (i + 1))
instantiable-next c i n under =
    let e : n - i ≡ suc (n - (i + 1)) = omega arith in
    rw e refl
