-- The comparison of names.
use Rattle.std.proofs.Common.{◌≡◌, ℕ, List, Bool, true, false, refl, sym, subst}
use Rattle.std.specs.Prelude.{◌&&◌, ◌==◌}
use Rattle.std.specs.Str.{bytes_eq}
use Rattle.std.proofs.lemmas.Bool.{eq-eqb}
use Rattle.std.proofs.lemmas.Slice.Eq.{bytes_eq-Decides}
use Rattle.pef_hash.specs.Kept.Ends.{end_of}

-- a test that follows from another one adds nothing to it
implied : (test other : Bool) → (other ≡ true → test ≡ true) → (test && other) ≡ other
implied true other follows = refl
implied false true follows = follows refl
implied false false follows = refl

-- equal names have equal ends
pub by_ends : (some other : List ℕ) → (end_of some == end_of other && bytes_eq some other) ≡ bytes_eq some other
by_ends some other = implied (end_of some == end_of other) (bytes_eq some other)
    (λ is. subst (λ name. (end_of name == end_of other) ≡ true) (sym ((bytes_eq-Decides some other).0 is)) (eq-eqb (end_of other) (end_of other) refl))
