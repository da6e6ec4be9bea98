-- How many open connections have a fragment in their closures.
use Rattle.std.specs.Prelude.{◌≡◌, ℕ, ◌+◌, Bool, false, true, List, [], ◌∷◌, filter, if◌then◌else◌, nat_lt, not, slice_index_or}
use Rattle.cfm_prepare.specs.Fragments.{Present, is_present}
use Rattle.cfm_prepare.specs.Lists.{has}
use Rattle.cfm_prepare.specs.Contexts.{Open}

-- 1 for a number of a list, 0 for any other
abbrev pub counted : List ℕ → ℕ → ℕ
counted order p = if has order p then 1 else 0

-- how many of some connections have a fragment in their closures
abbrev pub users_of : List Open → ℕ → ℕ
users_of [] p = 0
users_of (o ∷ os) p = counted o.closed.order p + users_of os p

-- count p, or 0 past the last one
abbrev pub count_at : List ℕ → ℕ → ℕ
count_at counts p = slice_index_or counts p 0

-- counts are those of the users of each fragment
abbrev pub CountUsers : List ℕ → List Open → Type 0
CountUsers counts connections = (p : ℕ) → count_at counts p ≡ users_of connections p

-- the fragments among some that have one user at most
abbrev pub unshared_among : List ℕ → List ℕ → List ℕ
unshared_among counts [] = []
unshared_among counts (p ∷ ps) = if nat_lt 1 (count_at counts p) then unshared_among counts ps else p ∷ unshared_among counts ps

-- each fragment of an order was counted once more
abbrev pub CountsMore : List ℕ → List ℕ → List ℕ → Type 0
CountsMore order before after = (p : ℕ) → count_at after p ≡ count_at before p + counted order p

-- whether a fragment has users by these counts
abbrev pub is_used : List ℕ → Present → Bool
is_used counts f = nat_lt 0 (count_at counts f.position)

-- the fragments that have users
abbrev pub used_of : List ℕ → List Present → List Present
used_of counts fs = filter (is_used counts) fs

-- the fragments that have none
abbrev pub unused_of : List ℕ → List Present → List Present
unused_of counts fs = filter (λ f. not (is_used counts f)) fs

-- the fragments outside an order have users
abbrev pub AreUsedBut : List ℕ → List Present → List ℕ → Type 0
AreUsedBut counts fs order = (p : ℕ) → nat_lt 0 (count_at counts p) ≡ false → is_present fs p ≡ true → has order p ≡ true
