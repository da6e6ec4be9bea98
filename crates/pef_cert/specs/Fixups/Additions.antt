-- The base that a fixup adds and its offset, and the fixups left after those at the front.
use Rattle.std.specs.Prelude.{ℕ, ◌==◌, Bool, false, ◌&&◌, if◌then◌else◌, List, [], ◌∷◌, Option, None, Some}
use Rattle.std.specs.Option.{option_and_then}
use Rattle.pef_reloc.specs.declared.fixup.Base.{Base}
use Rattle.pef_reloc.specs.declared.fixup.Base.TheVariants.{Section, Import}
use Rattle.pef_reloc.specs.declared.fixup.Fixup.{Fixup}

abbrev pub same_base : Base → Base → Bool
same_base (Section j) (Section k) = j == k
same_base (Section j) (Import k) = false
same_base (Import j) (Section k) = false
same_base (Import j) (Import k) = j == k

-- a fixup adds a base at a position
abbrev pub is_added : ℕ → Base → Fixup → Bool
is_added p b f = f.offset == p && same_base f.base b

-- the fixups left after the first, if it adds a base at an offset
abbrev pub after_first : ℕ → Base → List Fixup → Option (List Fixup)
after_first p b [] = None
after_first p b (f ∷ rest) = if is_added p b f then Some rest else None

-- the fixups left after those at the front
abbrev pub behind : List Fixup → List Fixup → Option (List Fixup)
behind [] fixups = Some fixups
behind (a ∷ made) fixups = option_and_then (behind made) (after_first a.offset a.base fixups)
