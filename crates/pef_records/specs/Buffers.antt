-- What a call copies into the caller's buffer: bytes or numbers, or the rows of a table. 200 means that the buffer is too
-- small, and 201 that there is nothing to copy.
use Rattle.std.specs.Prelude.{◌≡◌, ◌==◌, ℕ, zero, suc, ◌+◌, ◌-◌, ◌<◌, List, [], ◌∷◌, ◌++◌, Option, None, Some, MatchBool, drop, length, min, option_map, slice_get, take}
use Rattle.std.specs.Option.{option_map_or}

-- the items are at the front of the buffer, the rest of the buffer is unchanged, and the count of the items is written
abbrev pub Fills : {A : Type 0} → List A → List A → List A → ℕ → Type 0
Fills items old new written = (new ≡ items ++ drop (length items) old) × (written ≡ length items)

-- the items are more than the buffer has places, the buffer is unchanged, and the count of the items is written
abbrev pub IsTooLong : {A : Type 0} → List A → List A → List A → ℕ → Type 0
IsTooLong items old new written = (length old < length items) × (new ≡ old) × (written ≡ length items)

-- the items are copied, or they are too many
abbrev pub IsCopied : {A B : Type 0} → List A → List A → List A → ℕ → Option B → Type 0
IsCopied items old new written (Some done) = Fills items old new written
IsCopied items old new written None = IsTooLong items old new written

-- 0, and the items are in the buffer; or 200, if they are too many; or 201, if there are none to copy
abbrev pub CopiesOut : {A : Type 0} → Option (List A) → List A → List A → ℕ → ℕ → ℕ → Type 0
CopiesOut None old new before after answer = (answer ≡ 201) × (new ≡ old) × (after ≡ before)
CopiesOut (Some items) old new before after answer = MatchBool (answer == 0) (Fills items old new after) ((answer ≡ 200) × IsTooLong items old new after)

-- the items from a place on are at the front of the buffer, as many as it has places; the rest of the buffer is unchanged, and
-- the count of those items is written
abbrev pub FillsPart : {A : Type 0} → List A → ℕ → List A → List A → ℕ → Type 0
FillsPart items from old new written = Fills (take (length old) (drop from items)) old new written

-- the first n places have the rows from a number on, and the others are unchanged
abbrev pub filled : {A : Type 0} → (ℕ → Option A) → ℕ → ℕ → List A → List A
filled row from zero places = places
filled row from (suc n) [] = []
filled row from (suc n) (place ∷ places) = option_map_or (λ r. r) (row from) place ∷ filled row (from + 1) n places

-- how many of the rows from a number on have a place
abbrev pub fitting : ℕ → ℕ → ℕ → ℕ
fitting many from places = min places (many - from)

-- the row with a number, as C sees it
abbrev pub shown_at : {A B : Type 0} → (B → A) → List B → ℕ → Option A
shown_at shown rows k = option_map shown (slice_get rows k)

-- the rows from a number on are in the first places, and counted
abbrev pub FillsRows : {A B : Type 0} → (B → A) → List B → ℕ → List A → List A → ℕ → Type 0
FillsRows shown rows from old new after =
    (after ≡ fitting (length rows) from (length old)) × (new ≡ filled (shown_at shown rows) from after old)
