-- The effect of one act, and of those after it.
use Rattle.std.proofs.Common.{◌≡◌, ℕ, ◌+◌, Bool, true, false, cond, List, ◌∷◌, nat_le, nat_lt, length, Option, None, Some, refl, ap, sym}
use Rattle.pef_reloc.specs.declared.stop.Stop.{Stop}
use Rattle.pef_reloc.specs.declared.stop.Stop.TheVariants.{NoImport, NoSection, PastEnd}
use Rattle.pef_reloc.specs.declared.fixup.Base.{Base}
use Rattle.pef_reloc.specs.declared.fixup.Base.TheVariants.{Section, Import}
use Rattle.pef_reloc.specs.Steps.{Act, add, need, added}
use Rattle.pef_reloc.specs.Applied.{Addresses, address_of, Done, added_at, applied, unless_refused}
use Rattle.pef_reloc.specs.Kept.Rows.{word_added}
use Rattle.pef_reloc.specs.Kept.Rows.{Stands}

abbrev fault_of : Done Stop → Option Stop
fault_of d = d.fault

abbrev word_done : ℕ → Bool → List ℕ → List ℕ → Done Stop
word_done at inside old new = cond inside (record { memory = new; fault = None }) (record { memory = old; fault = Some (PastEnd at) })

abbrev word_then : ℕ → Bool → List ℕ → List ℕ → (List ℕ → Done Stop) → Done Stop
word_then at inside old new rest = unless_refused (cond inside None (Some (PastEnd at))) old (rest new)

go-next : (at : ℕ) (inside : Bool) (old new memory' : List ℕ) (rest : List ℕ → Done Stop) → word_done at inside old new ≡ record { memory = memory'; fault = None } → word_then at inside old new rest ≡ rest memory'
go-next at true old new memory' rest e = ap (λ (d : Done Stop). rest d.memory) e
go-next at false old new memory' rest e = let no : ◌≡◌ {A = Option Stop} (Some (PastEnd at)) None = ap fault_of e in absurd (cc no)

go-fault : (at : ℕ) (inside : Bool) (old new memory' : List ℕ) (rest : List ℕ → Done Stop) (f : Stop) → word_done at inside old new ≡ record { memory = memory'; fault = Some f } → word_then at inside old new rest ≡ record { memory = memory'; fault = Some f }
go-fault at true old new memory' rest f e = let no : ◌≡◌ {A = Option Stop} None (Some f) = ap fault_of e in absurd (cc no)
go-fault at false old new memory' rest f e = e

-- an addition inside memory, and the acts after it
pub word-next : (a : Addresses) (b : Base) (x at : ℕ) (acts : List Act) (memory memory' : List ℕ) → Stands a b x → word_added memory at x ≡ record { memory = memory'; fault = None } → applied a (add (added at b) ∷ acts) memory ≡ applied a acts memory'
unfolding applied
word-next a b x at acts memory memory' stands e =
    rw (stands.there, stands.address_is) (go-next at (nat_le (at + 4) (length memory)) memory (added_at memory at x) memory' (applied a acts) e)

-- an addition that passes the end
pub word-fault : (a : Addresses) (b : Base) (x at : ℕ) (acts : List Act) (memory memory' : List ℕ) (f : Stop) → Stands a b x → word_added memory at x ≡ record { memory = memory'; fault = Some f } → applied a (add (added at b) ∷ acts) memory ≡ record { memory = memory'; fault = Some f }
unfolding applied
word-fault a b x at acts memory memory' f stands e =
    rw (stands.there, stands.address_is) (go-fault at (nat_le (at + 4) (length memory)) memory (added_at memory at x) memory' (applied a acts) f e)

-- a section that exists, and the acts after the look for it
pub need-there : (a : Addresses) (p k : ℕ) (acts : List Act) (memory : List ℕ) → nat_lt k (length a.sections) ≡ true → applied a (need p k ∷ acts) memory ≡ applied a acts memory
unfolding applied
need-there a p k acts memory e = rw e refl

pub need-fault : (a : Addresses) (p k : ℕ) (acts : List Act) (memory : List ℕ) → nat_lt k (length a.sections) ≡ false → applied a (need p k ∷ acts) memory ≡ record { memory = memory; fault = Some (NoSection p) }
unfolding applied
need-fault a p k acts memory e = rw e refl

-- an import that doesn't exist
pub import-fault : (a : Addresses) (j at : ℕ) (acts : List Act) (memory : List ℕ) → nat_lt j (length a.imports) ≡ false → applied a (add (added at (Import j)) ∷ acts) memory ≡ record { memory = memory; fault = Some (NoImport at) }
unfolding applied
import-fault a j at acts memory e = rw e refl

-- a section has its address, also if it doesn't exist
pub section_stands : (a : Addresses) (k x : ℕ) → x ≡ address_of a (Section k) → Stands a (Section k) x
section_stands a k x e = record { there = refl; address_is = sym e }

pub import_stands : (a : Addresses) (j x : ℕ) → nat_lt j (length a.imports) ≡ true → x ≡ address_of a (Import j) → Stands a (Import j) x
import_stands a j x there e = record { there = rw there refl; address_is = sym e }
