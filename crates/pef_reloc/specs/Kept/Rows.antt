-- The effect of the code's rows of additions, with addresses in place of bases.
use Rattle.std.specs.Prelude.{◌≡◌, ℕ, ◌+◌, false, true, nat_le, nat_lt, if◌then◌else◌, List, length, map, slice_index, Option, None, Some, Result, Ok, Err}
use Rattle.pef_reloc.specs.declared.stop.Stop.{Stop}
use Rattle.pef_reloc.specs.declared.stop.Stop.TheVariants.{NoImport, NoSection, PastEnd}
use Rattle.pef_reloc.specs.declared.fixup.Base.{Base}
use Rattle.pef_reloc.specs.declared.words.Row.{Row}
use Rattle.pef_reloc.specs.Steps.{Act, add, row, pairs, numbered}
use Rattle.pef_reloc.specs.Applied.{Addresses, Done, added_at, address_of, is_missing, applied}

-- memory with an address added to a word, if the word is inside
abbrev pub word_added : List ℕ → ℕ → ℕ → Done Stop
word_added memory at address =
    if nat_le (at + 4) (length memory) then record { memory = added_at memory at address; fault = None }
    else record { memory = memory; fault = Some (PastEnd at) }

-- memory and the result are those of the acts
pub record Does (a : Addresses) (old new : List ℕ) (acts : List Act) (answer : Option Stop) : Type 0 where
  pub is : applied a acts old ≡ record { memory = new; fault = answer }

-- a base that exists, with its address
pub record Stands (a : Addresses) (base : Base) (address : ℕ) : Type 0 where
  pub there : is_missing a base ≡ false
  pub address_is : address_of a base ≡ address

-- the additions of a base whose address is known
abbrev pub DoesRow : List ℕ → List ℕ → Row → ℕ → Option Stop → Type 0
DoesRow old new r address answer =
    (a : Addresses) (b : Base) → Stands a b address → Does a old new (map add (row r.count r.from r.stride b)) answer

abbrev pub DoesPairs : List ℕ → List ℕ → Row → ℕ → ℕ → Option Stop → Type 0
DoesPairs old new r first second answer =
    (a : Addresses) (b b' : Base) → Stands a b first → Stands a b' second → Does a old new (map add (pairs r.count r.from r.stride b b')) answer

-- a section that is looked for, for a word: its address, or the refusal
abbrev pub FindsSection : Addresses → ℕ → ℕ → Result ℕ Stop → Type 0
FindsSection a k word (Ok x) = (nat_lt k (length a.sections) ≡ true) × (x ≡ slice_index a.sections k)
FindsSection a k word (Err fault) = (nat_lt k (length a.sections) ≡ false) × (fault ≡ NoSection word)

abbrev pub FindsImport : Addresses → ℕ → ℕ → Result ℕ Stop → Type 0
FindsImport a j word (Ok x) = (nat_lt j (length a.imports) ≡ true) × (x ≡ slice_index a.imports j)
FindsImport a j word (Err fault) = (nat_lt j (length a.imports) ≡ false) × (fault ≡ NoImport word)

-- the additions of imports that are numbered in turn
abbrev pub DoesNumbered : Addresses → List ℕ → List ℕ → ℕ → ℕ → ℕ → Option Stop → Type 0
DoesNumbered a old new n p m answer = Does a old new (map add (numbered n p m)) answer
