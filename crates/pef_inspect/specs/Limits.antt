-- How much of a container is verified. Parts of a container can share bytes, so that without limits a small container could
-- ask for any time. The limits are this project's own.
use Rattle.std.specs.Prelude.{ℕ, zero, suc, ◌-◌, ◌+◌, nat_lt, if◌then◌else◌, List, [], ◌∷◌, ◌++◌, Option, None, Some}
use Rattle.std.specs.Option.{option_to_list}
use Rattle.pef_words.specs.Findings.{all_among}
use Rattle.pef_inspect.specs.declared.finding.Finding.{Finding}
use Rattle.pef_inspect.specs.declared.limits.Limits.{Limits}

-- how many bytes the relocation programs that are read may have together
abbrev pub most_program_bytes : ℕ
most_program_bytes = 67108864

-- how many instructions the programs that are verified may execute together
abbrev pub most_steps : ℕ
most_steps = 67108864

-- how many bytes of packed data are verified together
abbrev pub most_packed : ℕ
most_packed = 268435456

-- how many words may be compared, of all programs together, to find those that are relocated twice
abbrev pub most_words : ℕ
most_words = 1048576

-- the limits for one container
abbrev pub container_limits : Limits
container_limits = record { program_bytes = most_program_bytes; steps = most_steps; packed_bytes = most_packed; words = most_words }

-- what is left of a limit after something that costs no more
abbrev pub less : ℕ → ℕ → Option ℕ
less limit cost = if nat_lt limit cost then None else Some (limit - cost)

-- how many of the n parts from one on cost no more than what is left
abbrev pub within : (ℕ → ℕ) → ℕ → ℕ → ℕ → ℕ
within cost left from zero = 0
within cost left from (suc n) = if nat_lt left (cost from) then 0 else suc (within cost (left - cost from) (from + 1) n)

-- what the n parts from one on cost together
abbrev pub total : (ℕ → ℕ) → ℕ → ℕ → ℕ
total cost from zero = 0
total cost from (suc n) = cost from + total cost (from + 1) n

-- what is left after the parts within a limit: the limit less what those before the first that costs more cost
abbrev pub left_within : (ℕ → ℕ) → ℕ → ℕ → ℕ → ℕ
left_within cost left from zero = left
left_within cost left from (suc n) = if nat_lt left (cost from) then left else left_within cost (left - cost from) (from + 1) n

-- the note on the parts that weren't checked, if there are any
abbrev pub rest_of : (ℕ → Finding) → ℕ → ℕ → List Finding
rest_of unchecked reached count = if nat_lt reached count then unchecked reached ∷ [] else []

-- the errors of the first parts, and the note on the others
unfoldable pub checked_within : (ℕ → ℕ) → (ℕ → Option Finding) → (ℕ → Finding) → ℕ → ℕ → List Finding
checked_within cost error unchecked most count =
    let reached = within cost most 0 count in
    all_among (λ i. option_to_list (error i)) 0 reached ++ rest_of unchecked reached count
