-- Where zero-ended names can be.
use Rattle.std.specs.Prelude.{◌≡◌, ℕ, true, false, List, length, min, take, nat_le}
use Rattle.std.specs.Option.{is_none, option_map_or}
use Rattle.pef_words.specs.Bytes.{name_at}
use Rattle.pef_loader.specs.CutNames.{CutName}

-- there is a zero-ended name at each offset before this one, and at no other
abbrev pub NamesEndAt : List ℕ → ℕ → Type 0
NamesEndAt bytes end = (at : ℕ) → is_none (name_at bytes at) ≡ nat_le end at

-- a name that begins with some bytes: it ends at their first zero byte, or is cut
abbrev pub front_name : ℕ → List ℕ → CutName
front_name most front =
    option_map_or (λ name. record { bytes = name; whole = true }) (name_at front 0) (record { bytes = take (min most (length front)) front; whole = false })
