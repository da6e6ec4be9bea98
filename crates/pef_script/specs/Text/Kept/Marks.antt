-- Marks of the words of fixups. They find overlaps if the fixups come in any order. A word's next four is the first
-- multiple of four after its offset. Words with the same next four overlap.
use Rattle.std.specs.Prelude.{◌≡◌, ℕ, zero, suc, ◌+◌, ◌-◌, ◌*◌, ◌/◌, ◌%◌, ◌<◌, ◌==◌, Bool, true, false, ◌&&◌, ◌||◌, List, nat_lt, slice_index_or}
use Rattle.std.specs.List.{AllByRecursion, list_any}
use Rattle.pef_reloc.specs.declared.fixup.Fixup.{Fixup}

-- the number of the next four of a word at an offset
abbrev pub next_four : ℕ → ℕ
next_four offset = offset / 4 + 1

-- how many bytes before multiple i the word begins whose next four it is, or 0
abbrev pub lead_at : List ℕ → ℕ → ℕ
lead_at leads i = slice_index_or leads i 0

-- one of the n multiples from i on has such a word
abbrev pub any_lead : List ℕ → ℕ → ℕ → Bool
any_lead leads i zero = false
any_lead leads i (suc n) = nat_lt 0 (lead_at leads i) || any_lead leads (i + 1) n

-- a marked word overlaps one of this many words from an offset: it begins before them, among them or in the last of them
abbrev pub leads_overlap : List ℕ → ℕ → ℕ → Bool
leads_overlap leads offset count =
    (nat_lt 0 (lead_at leads (next_four offset - 1)) && nat_lt (lead_at leads (next_four offset - 1)) (4 - offset % 4))
    || (any_lead leads (next_four offset) count
    || nat_lt (4 - offset % 4) (lead_at leads (next_four offset + count)))

-- a fixup's word begins where its mark says
abbrev pub IsMarked : List ℕ → Fixup → Type 0
IsMarked leads fixup = fixup.offset + lead_at leads (next_four fixup.offset) ≡ 4 * next_four fixup.offset

-- each fixup has its mark, and there are no others
pub record AreMarked (leads : List ℕ) (fixups : List Fixup) : Type 0 where
  pub each : AllByRecursion (IsMarked leads) fixups
  pub only : (i : ℕ) → 0 < lead_at leads i → list_any (λ (fixup : Fixup). next_four fixup.offset == i) fixups ≡ true
