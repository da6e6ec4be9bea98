-- One of the eight bits of a byte after another.
use Rattle.std.proofs.Common.{◌≡◌, ℕ, suc, ◌+◌, ◌-◌, ◌<◌, refl, arith}
use Rattle.mac_forks.specs.Crc.{shifted, shifted_by}

pub shifted_by-none : (bits : ℕ) → shifted_by 0 bits ≡ bits
unfolding shifted_by
shifted_by-none bits = refl

pub shifted_by-next : (n i bits : ℕ) → i < n → shifted_by (n - i) bits ≡ shifted_by (n - (i + 1)) (shifted bits)
unfolding shifted_by
shifted_by-next n i bits under =
    let e : n - i ≡ suc (n - (i + 1)) = omega arith in
    rw e refl
