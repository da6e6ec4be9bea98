-- One test or another.
use Rattle.std.proofs.Common.{◌≡◌, Bool, true, false, ◌||◌, cond, refl}

-- what follows from each of two tests follows from one or the other
pub or_either : (a b : Bool) (P : Type 0) → (a ≡ true → P) → (b ≡ true → P) → (a || b) ≡ true → P
or_either true b P left right e = left refl
or_either false b P left right e = right e

-- of three tests, it doesn't matter which two are taken together
pub or_assoc : (a b c : Bool) → (a || (b || c)) ≡ ((a || b) || c)
or_assoc true b c = refl
or_assoc false b c = refl

-- a second test that holds
pub cond-later : (b c : Bool) → c ≡ true → cond b true c ≡ true
cond-later true c is = refl
cond-later false c is = is
