-- The memory of a section after additions. No instruction is named here: fixups say which address is
-- added to which word (Mac OS Runtime Architectures, "PEF Structure", on relocation).
use Rattle.std.specs.Prelude.{ℕ, ◌+◌, ◌-◌, ◌^◌, ◌%◌, ◌<◌, ◌≤◌, List, [], ◌∷◌, ◌++◌, length, take, drop}
use Rattle.std.specs.List.{AllByRecursion}
use Rattle.byteorder.specs.Endian.{big_number, big_bytes}
use Rattle.pef_reloc.specs.declared.fixup.Base.{Base}
use Rattle.pef_reloc.specs.declared.fixup.Base.TheVariants.{Section, Import}
use Rattle.pef_reloc.specs.declared.fixup.Fixup.{Fixup}
use Rattle.pef_reloc.specs.Applied.{Addresses, added_at, address_of}

-- a base that exists
abbrev pub IsThere : Addresses → Base → Type 0
IsThere a (Section k) = k < length a.sections
IsThere a (Import j) = j < length a.imports

-- the word of a fixup lies in memory of this many bytes, and its base exists
pub record IsInside (a : Addresses) (len : ℕ) (fixup : Fixup) : Type 0 where
  pub word : fixup.offset + 4 ≤ len
  pub base : IsThere a fixup.base

abbrev pub AreInside : Addresses → ℕ → List Fixup → Type 0
AreInside a len fixups = AllByRecursion (IsInside a len) fixups

-- memory after the additions of fixups, one after the other
abbrev pub all_added : Addresses → List Fixup → List ℕ → List ℕ
all_added a [] memory = memory
all_added a (fixup ∷ fixups) memory = all_added a fixups (added_at memory fixup.offset (address_of a fixup.base))

-- memory from a place on, in which the word of each fixup, in address order, has the address of its base
-- added to it, modulo 2^32
unfoldable pub with_bases : (Base → ℕ) → ℕ → List Fixup → List ℕ → List ℕ
with_bases address from [] memory = memory
with_bases address from (fixup ∷ fixups) memory =
    let gap = fixup.offset - from in
    take gap memory ++ (big_bytes 4 ((big_number 4 (drop gap memory) + address fixup.base) % 2 ^ 32)
    ++ with_bases address (fixup.offset + 4) fixups (drop (gap + 4) memory))
