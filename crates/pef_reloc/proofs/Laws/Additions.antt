-- Additions that lie inside memory, with bases that exist, are done, and none is refused.
use Rattle.std.proofs.Common.{◌≡◌, ℕ, ◌+◌, ◌-◌, ◌^◌, ◌%◌, ◌≤◌, true, List, [], ◌∷◌, ◌++◌, length, map, take, drop, Option, None, refl, sym, ap, subst, ◌∙◌, append_assoc, arith}
use Rattle.std.specs.List.{AllByRecursion}
use Rattle.std.proofs.Math.Seq.{take-append-add, drop-append-add}
use Rattle.std.proofs.lemmas.Bool.{lt-ltb, le-leb}
use Rattle.std.proofs.lemmas.List.{length-append, length-drop, length-take}
use Rattle.byteorder.specs.Endian.{big_number, big_bytes}
use Rattle.byteorder.specs.Numbers.{length-bytes_high_first}
use Rattle.pef_reloc.specs.declared.stop.Stop.{Stop}
use Rattle.pef_reloc.specs.declared.fixup.Base.{Base}
use Rattle.pef_reloc.specs.declared.fixup.Base.TheVariants.{Section, Import}
use Rattle.pef_reloc.specs.declared.fixup.Fixup.{Fixup}
use Rattle.pef_reloc.specs.declared.instr.Instr.{Instr}
use Rattle.pef_reloc.specs.Additions.{AreInside, IsInside, IsThere, all_added, with_bases}
use Rattle.pef_reloc.specs.Applied.{Addresses, Done, act_fault, added_at, address_of, applied, unless_refused}
use Rattle.pef_reloc.specs.Fixups.{fixups_end, fixups_from}
use Rattle.pef_reloc.specs.Steps.{State, acts_from, add, names_below, trace}
use Rattle.pef_reloc.proofs.FixupLemmas.{fixups_from-first}
use Rattle.pef_reloc.proofs.FlatLaws.{applied-trace}

-- an addition leaves the length of memory
pub length-added_at : (memory : List ℕ) (at x : ℕ) → at + 4 ≤ length memory → length (added_at memory at x) ≡ length memory
unfolding added_at
length-added_at memory at x inside =
    let word = big_bytes 4 ((big_number 4 (drop at memory) + x) % 2 ^ 32) in
    let word_len : length word ≡ 4 = length-bytes_high_first 4 ((big_number 4 (drop at memory) + x) % 2 ^ 32) in
    rw (length-append (take at memory ++ word) (drop (at + 4) memory), length-append (take at memory) word, length-take at memory, length-drop (at + 4) memory, word_len) (omega (arith, inside))

-- an addition that lies inside memory isn't refused
addition-there : (a : Addresses) (len : ℕ) (fixup : Fixup) → IsInside a len fixup → act_fault a len (add fixup) ≡ None
addition-there a len fixup inside = go fixup.base inside.base
  where
    go : (base : Base) → IsThere a base → act_fault a len (add (record fixup { base = base })) ≡ None
    go (Section k) is = rw (le-leb (fixup.offset + 4) len inside.word) refl
    go (Import j) is = rw (lt-ltb j (length a.imports) is, le-leb (fixup.offset + 4) len inside.word) refl

done_here : (fault : Option Stop) (memory : List ℕ) (rest : Done Stop) → fault ≡ None → unless_refused fault memory rest ≡ rest
done_here fault memory rest none = rw none refl

-- additions that lie inside memory are all done
pub additions-done : (a : Addresses) (fixups : List Fixup) (memory : List ℕ) → AreInside a (length memory) fixups → applied a (map add fixups) memory ≡ record { memory = all_added a fixups memory; fault = None }
unfolding applied
additions-done a [] memory inside = refl
additions-done a (fixup ∷ fixups) memory inside =
    let next = added_at memory fixup.offset (address_of a fixup.base) in
    let same : length memory ≡ length next = sym (length-added_at memory fixup.offset (address_of a fixup.base) inside.0.word) in
    let P : ℕ → Type 0 = λ len. AreInside a len fixups in
    done_here (act_fault a (length memory) (add fixup)) memory (applied a (map add fixups) next) (addition-there a (length memory) fixup inside.0)
    ∙ additions-done a fixups next (subst P same inside.1)

-- and so are those of instructions that name sections that exist
pub instrs-done : (a : Addresses) (instrs : List Instr) (s : State) (memory : List ℕ) → names_below (length a.sections) instrs ≡ true → AreInside a (length memory) (trace instrs s)
    → applied a (acts_from instrs s) memory ≡ record { memory = all_added a (trace instrs s) memory; fault = None }
instrs-done a instrs s memory names inside = applied-trace a instrs s memory names ∙ additions-done a (trace instrs s) memory inside

-- an addition after a prefix leaves the prefix unchanged
added_after : (front memory : List ℕ) (gap x : ℕ) → added_at (front ++ memory) (length front + gap) x
    ≡ (front ++ (take gap memory ++ big_bytes 4 ((big_number 4 (drop gap memory) + x) % 2 ^ 32))) ++ drop (gap + 4) memory
unfolding added_at
added_after front memory gap x =
    let behind : length front + gap + 4 ≡ length front + (gap + 4) = omega arith in
    rw (take-append-add front memory gap, drop-append-add front memory gap, behind, drop-append-add front memory (gap + 4)) (simp append_assoc)

-- the additions of fixups in address order after a prefix leave the prefix unchanged, and add to the words
-- of the rest
described_after : (a : Addresses) (fixups : List Fixup) (from : ℕ) (front memory : List ℕ) → length front ≡ from → fixups_from from fixups ≡ true → AreInside a (from + length memory) fixups
    → all_added a fixups (front ++ memory) ≡ front ++ with_bases (address_of a) from fixups memory
unfolding with_bases
described_after a [] from front memory is apart inside = refl
described_after a (fixup ∷ fixups) from front memory is apart inside =
    let first = fixups_from-first from fixup fixups apart in
    let after = first.after in
    let within = inside.0.word in
    let gap = fixup.offset - from in
    let word = big_bytes 4 ((big_number 4 (drop gap memory) + address_of a fixup.base) % 2 ^ 32) in
    let offset_is : fixup.offset ≡ length front + gap = omega arith in
    let word_len : length word ≡ 4 = length-bytes_high_first 4 ((big_number 4 (drop gap memory) + address_of a fixup.base) % 2 ^ 32) in
    let added : added_at (front ++ memory) fixup.offset (address_of a fixup.base) ≡ (front ++ (take gap memory ++ word)) ++ drop (gap + 4) memory =
    ap (λ (o : ℕ). added_at (front ++ memory) o (address_of a fixup.base)) offset_is ∙ added_after front memory gap (address_of a fixup.base) in
    let front_len : length (front ++ (take gap memory ++ word)) ≡ fixup.offset + 4 =
    rw (length-append front (take gap memory ++ word), length-append (take gap memory) word, length-take gap memory, word_len) (omega arith) in
    let left : from + length memory ≡ fixup.offset + 4 + length (drop (gap + 4) memory) = rw (length-drop (gap + 4) memory) (omega arith) in
    let P : ℕ → Type 0 = λ len. AreInside a len fixups in
    ap (all_added a fixups) added
    ∙ described_after a fixups (fixup.offset + 4) (front ++ (take gap memory ++ word)) (drop (gap + 4) memory) front_len first.others (subst P left inside.1)
    ∙ append_assoc front (take gap memory ++ word) _ ∙ ap (λ (m : List ℕ). front ++ m) (append_assoc (take gap memory) word _)

-- the additions of fixups in address order turn memory into what the fixups describe
pub additions-described : (a : Addresses) (fixups : List Fixup) (memory : List ℕ) → fixups_from 0 fixups ≡ true → AreInside a (length memory) fixups
    → all_added a fixups memory ≡ with_bases (address_of a) 0 fixups memory
additions-described a fixups memory apart inside =
    let whole : length memory ≡ 0 + length memory = omega arith in
    let P : ℕ → Type 0 = λ len. AreInside a len fixups in
    described_after a fixups 0 [] memory refl apart (subst P whole inside)

-- the last word of fixups in order ends at or after the given end
end_after : (from : ℕ) (fixups : List Fixup) → fixups_from from fixups ≡ true → from ≤ fixups_end from fixups
end_after from [] apart = omega arith
end_after from (fixup ∷ fixups) apart =
    let first = fixups_from-first from fixup fixups apart in
    let after = first.after in
    let others = end_after (fixup.offset + 4) fixups first.others in
    omega arith

-- fixups in address order lie inside memory if the last one does and the bases exist
pub fixups-inside : (a : Addresses) (from len : ℕ) (fixups : List Fixup) → fixups_from from fixups ≡ true → fixups_end from fixups ≤ len → AllByRecursion (λ (fixup : Fixup). IsThere a fixup.base) fixups → AreInside a len fixups
fixups-inside a from len [] apart ends bases = tt
fixups-inside a from len (fixup ∷ fixups) apart ends bases =
    let first = fixups_from-first from fixup fixups apart in
    let others = end_after (fixup.offset + 4) fixups first.others in
    (record { word = omega arith; base = bases.0 }, fixups-inside a (fixup.offset + 4) len fixups first.others ends bases.1)
