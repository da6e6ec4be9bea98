-- The memory that a script describes, byte by byte.
use Rattle.std.proofs.Common.{◌≡◌, ℕ, zero, suc, ◌+◌, ◌-◌, ◌^◌, ◌%◌, ◌≤◌, ◌<◌, ◌&&◌, true, List, [], ◌∷◌, ◌++◌, Some, length, take, drop, get_or, slice_get, inl, inr, refl, sym, ap, subst, ◌∙◌, arith}
use Rattle.std.specs.Prelude.{nat_le, unwrap_or}
use Rattle.std.proofs.Math.Seq.{drop-append_seam, drop-append-add, take-append_seam}
use Rattle.std.proofs.lemmas.Bool.{and_parts, leb-true}
use Rattle.std.proofs.lemmas.List.{drop-drop, get_or-append-add, get_or-drop, get_or-take, get_or_append_left, length-append, length-drop, length-take-le}
use Rattle.std.proofs.lemmas.Option.{slice_get-get_or, unwrap_or-slice_get}
use Rattle.byteorder.specs.Endian.{big_number, big_bytes}
use Rattle.byteorder.specs.Numbers.{length-bytes_high_first}
use Rattle.pef_words.specs.Bytes.{filled}
use Rattle.pef_words.proofs.Laws.Images.{filled-at, length-filled}
use Rattle.pef_reloc.specs.declared.fixup.Base.{Base}
use Rattle.pef_reloc.specs.declared.fixup.Base.TheVariants.{Import, Section}
use Rattle.pef_reloc.specs.declared.fixup.Fixup.{Fixup}
use Rattle.pef_reloc.specs.Fixups.{fixup_fits, fixups_end, fixups_from}
use Rattle.pef_reloc.proofs.Laws.{fixups_fit-parts}
use Rattle.pef_reloc.specs.Additions.{IsThere, with_bases}
use Rattle.pef_reloc.specs.Applied.{Addresses}
use Rattle.pef_script.specs.Described.{IsOutside, described_memory}
use Rattle.pef_script.specs.Script.{DescribedSection}
use Rattle.pef_script.specs.WellFormed.{BaseThere, SectionHolds}

-- a base of a script exists if its sections and its imports have addresses
pub base_there : (a : Addresses) (base : Base) → BaseThere (length a.sections) (length a.imports) base → IsThere a base
base_there a (Section k) there = there
base_there a (Import j) there = there

-- the word of a fixup, in memory from its place on: the word that was there plus the address of the
-- base, modulo 2^32
abbrev word_with_base : (Base → ℕ) → Fixup → List ℕ → List ℕ
word_with_base address fixup memory = big_bytes 4 ((big_number 4 memory + address fixup.base) % 2 ^ 32)

-- fixups are in a row between two places
abbrev Between : ℕ → List Fixup → ℕ → Type 0
Between from [] end = from ≤ end
Between from (f ∷ fs) end = (from ≤ f.offset) × Between (f.offset + 4) fs end

between-room : (from : ℕ) (fs : List Fixup) (end : ℕ) → Between from fs end → from ≤ end
between-room from [] end apart = apart
between-room from (f ∷ fs) end apart = let later = between-room (f.offset + 4) fs end apart.1 in omega (arith, apart.0, later)

-- each one is between them, too
between-at : (from : ℕ) (fs : List Fixup) (end i : ℕ) (f : Fixup) → Between from fs end → slice_get fs i ≡ Some f → from ≤ f.offset
between-at from [] end i f apart at = absurd (cc)
between-at from (g ∷ fs) end zero f apart at = (let e : g ≡ f = cc in subst (λ (h : Fixup). from ≤ h.offset) e apart.0)
between-at from (g ∷ fs) end (suc i) f apart at = let later = between-at (g.offset + 4) fs end i f apart.1 at in omega (arith, apart.0, later)

between_of : (from : ℕ) (fs : List Fixup) (end : ℕ) → fixups_from from fs ≡ true → fixups_end from fs ≤ end → Between from fs end
between_of from [] end apart inside = inside
between_of from (f ∷ fs) end apart inside =
    let parts = and_parts (nat_le from f.offset && fixup_fits f) (fixups_from (f.offset + 4) fs) apart in
    (leb-true _ _ (and_parts (nat_le from f.offset) (fixup_fits f) parts.0).0, between_of (f.offset + 4) fs end parts.1 inside)

length-word : (address : Base → ℕ) (f : Fixup) (memory : List ℕ) → length (word_with_base address f memory) ≡ 4
length-word address f memory = length-bytes_high_first 4 ((big_number 4 memory + address f.base) % 2 ^ 32)

module _ (address : Base → ℕ) where
  -- the words don't change the length
  length-with_bases : (fs : List Fixup) (from end : ℕ) (memory : List ℕ) → end ≡ from + length memory → Between from fs end → length (with_bases address from fs memory) ≡ length memory
  unfolding with_bases
  length-with_bases [] from end memory is apart = refl
  length-with_bases (f ∷ fs) from end memory is apart =
      let gap = f.offset - from in
      let rest = drop (gap + 4) memory in
      let word = word_with_base address f (drop gap memory) in
      let room = between-room (f.offset + 4) fs end apart.1 in
      let left : length rest ≡ length memory - (gap + 4) = length-drop (gap + 4) memory in
      let later = length-with_bases fs (f.offset + 4) end rest (omega (arith, left, is, room, apart.0)) apart.1 in
      let front : length (take gap memory) ≡ gap = length-take-le gap memory (omega (arith, is, room, apart.0)) in
      omega (arith, length-append (take gap memory) (word ++ with_bases address (f.offset + 4) fs rest), length-append word (with_bases address (f.offset + 4) fs rest), length-word address f (drop gap memory), front, later, left, is, room, apart.0)

  -- a byte outside of the words is unchanged
  outside-with_bases : (fs : List Fixup) (from end y : ℕ) (memory : List ℕ) → end ≡ from + length memory → Between from fs end → IsOutside (from + y) fs → get_or (with_bases address from fs memory) y 0 ≡ get_or memory y 0
  unfolding with_bases
  outside-with_bases [] from end y memory is apart outside = refl
  outside-with_bases (f ∷ fs) from end y memory is apart outside =
      let gap = f.offset - from in
      let rest = drop (gap + 4) memory in
      let word = word_with_base address f (drop gap memory) in
      let behind = with_bases address (f.offset + 4) fs rest in
      let room = between-room (f.offset + 4) fs end apart.1 in
      let front : length (take gap memory) ≡ gap = length-take-le gap memory (omega (arith, is, room, apart.0)) in
      elim (outside.0) [
        | inl before ↦
            let under : y < length (take gap memory) = omega (arith, front, before, apart.0) in
            get_or_append_left (take gap memory) (word ++ behind) 0 y under ∙ get_or-take gap memory y 0 (omega (arith, front, under))
        | inr after ↦
            let n = y - (gap + 4) in
            let four = length-word address f (drop gap memory) in
            let in_rest : y ≡ length (take gap memory) + (length word + n) = omega (arith, front, four, after, apart.0) in
            let left : length rest ≡ length memory - (gap + 4) = length-drop (gap + 4) memory in
            let same : f.offset + 4 + n ≡ from + y = omega (arith, after, apart.0) in
            let later = outside-with_bases fs (f.offset + 4) end n rest (omega (arith, left, is, room, apart.0)) apart.1 (subst (λ x. IsOutside x fs) (sym same) outside.1) in
            let back : gap + 4 + n ≡ y = omega (arith, after, apart.0) in
            ap (λ i. get_or (take gap memory ++ (word ++ behind)) i 0) in_rest
            ∙ get_or-append-add (take gap memory) (word ++ behind) (length word + n) 0
            ∙ get_or-append-add word behind n 0
            ∙ later
            ∙ get_or-drop (gap + 4) memory n 0
            ∙ ap (λ i. get_or memory i 0) back
      ]

  -- a word has the address of its base added to it
  word-with_bases : (fs : List Fixup) (from end i : ℕ) (f : Fixup) (memory : List ℕ) → end ≡ from + length memory → Between from fs end → slice_get fs i ≡ Some f
      → take 4 (drop (f.offset - from) (with_bases address from fs memory)) ≡ word_with_base address f (drop (f.offset - from) memory)
  unfolding with_bases
  word-with_bases [] from end i f memory is apart at = absurd (cc)
  word-with_bases (g ∷ fs) from end zero f memory is apart at =
      let gap = g.offset - from in
      let rest = drop (gap + 4) memory in
      let word = word_with_base address g (drop gap memory) in
      let behind = with_bases address (g.offset + 4) fs rest in
      let whole = take gap memory ++ (word ++ behind) in
      let room = between-room (g.offset + 4) fs end apart.1 in
      let front : length (take gap memory) ≡ gap = length-take-le gap memory (omega (arith, is, room, apart.0)) in
      let same : g ≡ f = cc in
      let here : take 4 (drop gap whole) ≡ word =
      ap (λ n. take 4 (drop n whole)) (sym front) ∙ ap (take 4) (drop-append_seam (take gap memory) (word ++ behind))
      ∙ ap (λ n. take n (word ++ behind)) (sym (length-word address g (drop gap memory))) ∙ take-append_seam word behind in
      subst (λ (h : Fixup). take 4 (drop (h.offset - from) whole) ≡ word_with_base address h (drop (h.offset - from) memory)) same here
  word-with_bases (g ∷ fs) from end (suc i) f memory is apart at =
      let gap = g.offset - from in
      let rest = drop (gap + 4) memory in
      let word = word_with_base address g (drop gap memory) in
      let behind = with_bases address (g.offset + 4) fs rest in
      let whole = take gap memory ++ (word ++ behind) in
      let room = between-room (g.offset + 4) fs end apart.1 in
      let front : length (take gap memory) ≡ gap = length-take-le gap memory (omega (arith, is, room, apart.0)) in
      let four = length-word address g (drop gap memory) in
      let under = between-at (g.offset + 4) fs end i f apart.1 at in
      let left : length rest ≡ length memory - (gap + 4) = length-drop (gap + 4) memory in
      let n = f.offset - (g.offset + 4) in
      let place : f.offset - from ≡ length (take gap memory) + (length word + n) = omega (arith, front, four, under, apart.0) in
      let back : gap + 4 + n ≡ f.offset - from = omega (arith, under, apart.0) in
      ap (λ k. take 4 (drop k whole)) place
      ∙ ap (take 4) (drop-append-add (take gap memory) (word ++ behind) (length word + n) ∙ drop-append-add word behind n)
      ∙ word-with_bases fs (g.offset + 4) end i f rest (omega (arith, left, is, room, apart.0)) apart.1 at
      ∙ ap (word_with_base address f) (drop-drop n (gap + 4) memory ∙ ap (λ k. drop k memory) back)

module _ (address : Base → ℕ) (m n : ℕ) (s : DescribedSection) (holds : SectionHolds m n s) where
  full : length (filled s.image s.header.total) ≡ s.header.total
  full = length-filled s.image s.header.total holds.image

  end_is : s.header.total ≡ 0 + length (filled s.image s.header.total)
  end_is = omega (arith, full)

  between : Between 0 s.fixups s.header.total
  between = between_of 0 s.fixups s.header.total (fixups_fit-parts s.fixups holds.fixups).apart holds.inside

  pub described-size : length (described_memory address s) ≡ s.header.total
  described-size = length-with_bases address s.fixups 0 s.header.total (filled s.image s.header.total) end_is between ∙ full

  pub described-bytes : (x : ℕ) → x < s.header.total → IsOutside x s.fixups → slice_get (described_memory address s) x ≡ Some (unwrap_or (slice_get s.image x) 0)
  described-bytes x under outside =
      let same : 0 + x ≡ x = omega arith in
      slice_get-get_or (described_memory address s) x 0 (omega (arith, under, described-size))
      ∙ ap Some (outside-with_bases address s.fixups 0 s.header.total x (filled s.image s.header.total) end_is between (subst (λ y. IsOutside y s.fixups) (sym same) outside)
      ∙ filled-at s.image s.header.total x ∙ sym (unwrap_or-slice_get s.image x 0))

  pub described-fixup : (i : ℕ) (f : Fixup) → slice_get s.fixups i ≡ Some f
      → take 4 (drop f.offset (described_memory address s)) ≡ big_bytes 4 ((big_number 4 (drop f.offset (filled s.image s.header.total)) + address f.base) % 2 ^ 32)
  described-fixup i f at =
      let memory = filled s.image s.header.total in
      let same : f.offset - 0 ≡ f.offset = omega arith in
      subst (λ at. take 4 (drop at (described_memory address s)) ≡ word_with_base address f (drop at memory)) same (word-with_bases address s.fixups 0 s.header.total i f memory end_is between at)
