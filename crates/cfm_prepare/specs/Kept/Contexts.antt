-- The invariant of a context.
use Rattle.std.specs.Prelude.{◌≡◌, ℕ, ◌<◌, ◌≤◌, ◌^◌, true, List, length}
use Rattle.cfm_prepare.specs.Fragments.{Present, is_present}
use Rattle.cfm_prepare.specs.Contexts.{Open}
use Rattle.cfm_prepare.specs.Kept.Users.{CountUsers, count_at}

-- no more connections are open than numbers were given, and each fragment that is present has users
pub record IsKept (most given : ℕ) (users : List ℕ) (connections : List Open) (present : List Present) : Type 0 where
  pub few : given ≤ most
  pub small : most < 2 ^ 32
  pub many : length connections ≤ given
  pub counted : CountUsers users connections
  pub used : (p : ℕ) → is_present present p ≡ true → 0 < count_at users p
