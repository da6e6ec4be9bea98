-- The own bytes of a container are the same container.
use Rattle.std.proofs.Common.{◌≡◌, ℕ, ℤ, pos, negsuc, zero, suc, ◌+◌, ◌-◌, ◌<◌, ◌≤◌, ◌⊎◌, ◌∙◌, max, min, not, Bool, true, false, List, [], ◌∷◌, Option, None, Some, drop, take, length, length-drop, refl, sym, ap, subst, arith, inl, inr}
use Rattle.std.specs.Prelude.{◌==◌, ◌||◌, Ok, Err, nat_le, option_map, unwrap_or, if◌then◌else◌}
use Rattle.std.specs.Option.{option_map_or}
use Rattle.std.proofs.Math.Nat.{le-max_left, le-max_right, max-zero}
use Rattle.std.proofs.lemmas.Bool.{cases_lt, eqb-true, le-leb, le-ltb, leb-true, lt-ltb, ne_eqb}
use Rattle.std.proofs.lemmas.List.{drop-drop, length-take-le, take_min}
use Rattle.std.proofs.Math.Seq.{take-take}
use Rattle.pef_words.specs.Bytes.{before_zero, name_at, number_at}
use Rattle.pef_words.specs.Refusals.{first_among, first_met}
use Rattle.pef_words.proofs.Laws.Numbers.{number-kept, rest-kept}
use Rattle.pef_words.proofs.Laws.Refusals.{first_among-none, first_unmet, unless_ok}
use Rattle.pef_views.specs.declared.header.Header.{Header}
use Rattle.pef_views.specs.declared.section.SectionHeader.{SectionHeader}
use Rattle.pef_views.specs.Header.{header_of, header_tests, names_from, section_header_from}
use Rattle.pef_views.specs.Section.{is_inside, raw_of, section_at, section_tests}
use Rattle.pef_views.specs.Container.{Contained, IsContainer, container_of, is_instantiated, loader_here, loader_of, name_in, section_in, section_name_of, section_of, section_refusal, judged}
use Rattle.pef_views.specs.declared.fault.ViewFault.TheVariants.{TooShort}
use Rattle.pef_views.specs.Extents.{IsSame, KeepsContainers, extent, greatest, last_name, name_start, names_end, own_bytes, parts_end, raw_end}
use Rattle.pef_views.proofs.Containers.{IsUnmet, accepted, accepts, header_room, header_unmet, raw_inside, section_header_is, with_loader_ok}
use Rattle.pef_views.proofs.Sections.{section_unmet}

-- one number more
pub greatest-next : (f : ℕ → ℕ) (i n end : ℕ) → i < n → max (max end (f i)) (greatest f (i + 1) (n - (i + 1))) ≡ max end (greatest f i (n - i))
greatest-next f i n end under =
    let e : n - i ≡ suc (n - (i + 1)) = omega (arith, under) in rw e (omega arith)

-- no number is left
pub greatest-end : (f : ℕ → ℕ) (i n end : ℕ) → n ≤ i → max end (greatest f i (n - i)) ≡ end
greatest-end f i n end past =
    let e : n - i ≡ 0 = omega (arith, past) in rw e (max-zero end)

-- each number is at most the greatest
greatest-bound : (f : ℕ → ℕ) (from n k : ℕ) → from ≤ k → k < from + n → f k ≤ greatest f from n
greatest-bound f from zero k low high = absurd (omega (arith, low, high))
greatest-bound f from (suc n) k low high = elim (cases_lt from k) [
  | inl less ↦ (let there = greatest-bound f (from + 1) n k (omega (arith, less)) (omega (arith, high)) in omega (arith, there, le-max_right (f from) (greatest f (from + 1) n)))
  | inr same ↦ (let here : from ≡ k = omega (arith, low, same) in subst (λ x. f x ≤ greatest f from (suc n)) here (le-max_left (f from) (greatest f (from + 1) n)))
]

-- a name: its first byte is zero, or the others follow
abbrev IsNamed : ℕ → List ℕ → List ℕ → Type 0
IsNamed b xs name = (((b == 0) ≡ true) × (name ≡ [])) ⊎ (((b == 0) ≡ false) × (more : List ℕ) × (name ≡ b ∷ more) × (before_zero xs ≡ Some more))

named-by : (b : ℕ) (xs name : List ℕ) (z : Bool) (rest : Option (List ℕ)) → (b == 0) ≡ z → before_zero xs ≡ rest → (if z then Some [] else option_map (λ more. b ∷ more) rest) ≡ Some name → IsNamed b xs name
named-by b xs name true rest is later there = inl (is, sym (ap (λ o. unwrap_or o name) there))
named-by b xs name false None is later there = absurd (cc)
named-by b xs name false (Some more) is later there = inr (is, more, sym (ap (λ o. unwrap_or o name) there), later)

named : (b : ℕ) (xs name : List ℕ) → before_zero (b ∷ xs) ≡ Some name → IsNamed b xs name
named b xs name there = named-by b xs name (b == 0) (before_zero xs) refl refl there

-- a name lies among its bytes, with its zero byte
name-inside : (xs name : List ℕ) → before_zero xs ≡ Some name → length name < length xs
name-inside [] name there = absurd (cc)
name-inside (b ∷ xs) name there = elim (named b xs name there) [
  | inl first ↦ rw first.1 (omega arith)
  | inr later ↦ (let inside = name-inside xs later.1 later.3 in rw later.2 (omega (arith, inside)))
]

pub name_room : (bytes : List ℕ) (at : ℕ) (name : List ℕ) → name_at bytes at ≡ Some name → at + length name < length bytes
unfolding name_at
name_room bytes at name there =
    let inside = name-inside (drop at bytes) name there in
    let left = length-drop at bytes in
    omega (arith, inside, left)

-- it ends no later than one that begins after it
name-before : (d : ℕ) (xs name last : List ℕ) → before_zero xs ≡ Some name → before_zero (drop d xs) ≡ Some last → length name ≤ d + length last
name-before zero xs name last there after = (let e : Some name ≡ Some last = sym there ∙ after in let same = ap (λ o. unwrap_or o name) e in rw same (omega arith))
name-before (suc d) [] name last there after = absurd (cc)
name-before (suc d) (b ∷ xs) name last there after = elim (named b xs name there) [
  | inl first ↦ rw first.1 (omega arith)
  | inr later ↦ (let before = name-before d xs later.1 last later.3 after in rw later.2 (omega (arith, before)))
]

-- it is among the first bytes if it ends there
name-kept : (m : ℕ) (xs name : List ℕ) → before_zero xs ≡ Some name → length name < m → before_zero (take m xs) ≡ Some name
name-kept m [] name there within = absurd (cc)
name-kept zero (b ∷ xs) name there within = absurd (omega (arith, within))
name-kept (suc m) (b ∷ xs) name there within = elim (named b xs name there) [
  | inl first ↦ rw (first.0, first.1) refl
  | inr later ↦ (
      let few = rw later.2 at within in
      rw (later.0, later.2, name-kept m xs later.1 later.3 (omega (arith, few))) refl
      )
]

-- where no name ends, none ends among the first bytes
unnamed : (b : ℕ) (z : Bool) (rest : Option (List ℕ)) → (if z then Some [] else option_map (λ more. b ∷ more) rest) ≡ None → (z ≡ false) × (rest ≡ None)
unnamed b true rest none = absurd (cc)
unnamed b false None none = (refl, refl)
unnamed b false (Some more) none = absurd (cc)

no_name-kept : (m : ℕ) (xs : List ℕ) → before_zero xs ≡ None → before_zero (take m xs) ≡ None
no_name-kept zero xs none = refl
no_name-kept (suc m) [] none = refl
no_name-kept (suc m) (b ∷ xs) none =
    let parts = unnamed b (b == 0) (before_zero xs) none in
    rw (parts.0, no_name-kept m xs parts.1) refl

-- the first answer among equal ones
first_among-same : {F : Type 0} (f g : ℕ → Option F) (from n : ℕ) → ((k : ℕ) → from ≤ k → k < from + n → f k ≡ g k) → first_among f from n ≡ first_among g from n
first_among-same f g from zero same = refl
first_among-same f g from (suc n) same =
    rw (same from (omega arith) (omega arith), first_among-same f g (from + 1) n (λ k low high. same k (omega (arith, low)) (omega (arith, high)))) refl

-- a section whose header is there
section-there : (c : Contained) (i : ℕ) (s : SectionHeader) → i < c.header.section_count → section_at c.bytes i ≡ Some s → section_of c i ≡ Some (section_in c.bytes s)
unfolding section_of
section-there c i s under there = rw (lt-ltb i c.header.section_count under, there) refl

-- past the last one there is none
section-past : (c : Contained) (i : ℕ) → c.header.section_count ≤ i → section_of c i ≡ None
unfolding section_of
section-past c i past = rw (le-ltb i c.header.section_count past) refl

-- all parts of a container end by then
record Keeps (c : Contained) (end : ℕ) : Type 0 where
  within : end ≤ length c.bytes
  headers : names_from c.header ≤ end
  raws : (i : ℕ) (s : SectionHeader) → i < c.header.section_count → section_at c.bytes i ≡ Some s → (s.packed_size == 0 || nat_le (s.container_offset + s.packed_size) end) ≡ true
  names : (i : ℕ) (s : SectionHeader) (offset : ℕ) (name : List ℕ) → i < c.header.section_count → section_at c.bytes i ≡ Some s → s.name_offset ≡ pos offset
      → before_zero (drop (names_from c.header + offset) c.bytes) ≡ Some name → names_from c.header + offset + length name < end

-- no test of a header holds in fewer bytes that have all headers
unmet_within : (h : Header) (len end : ℕ) → IsUnmet h len → names_from h ≤ end → first_met (header_tests h end) ≡ None
unfolding header_tests
unmet_within h len end none room = rw (none.tag, none.architecture, none.version, none.counts, le-ltb end (names_from h) room) refl

-- no test of a section holds in fewer bytes that have its raw bytes
tests_unmet : (i : ℕ) (inst : Bool) (s : SectionHeader) (len end : ℕ) → first_met (section_tests i inst s len) ≡ None → is_inside s end ≡ true → first_met (section_tests i inst s end) ≡ None
unfolding section_tests
tests_unmet i inst s len end none inside =
    let others = first_unmet (not (is_inside s len)) _ _ none in
    rw inside others.1

module _ (c : Contained) (ok : IsContainer c) (end : ℕ) (k : Keeps c end) where
  abbrev own : List ℕ
  own = take end c.bytes

  abbrev kept : Contained
  kept = record { bytes = own; header = c.header; loader = c.loader }

  number : (n at : ℕ) → at + n ≤ end → number_at n own at ≡ number_at n c.bytes at
  number n at within = number-kept n at end c.bytes within k.within

  header_is : header_of own ≡ header_of c.bytes
  unfolding header_of
  header_is = let room = k.headers in rw (
    number 4 0 (omega (arith, room)),
    number 4 4 (omega (arith, room)),
    number 4 8 (omega (arith, room)),
    number 4 12 (omega (arith, room)),
    number 4 16 (omega (arith, room)),
    number 4 20 (omega (arith, room)),
    number 4 24 (omega (arith, room)),
    number 4 28 (omega (arith, room)),
    number 2 32 (omega (arith, room)),
    number 2 34 (omega (arith, room)),
    number 4 36 (omega (arith, room)),
  ) refl

  section_is : (i : ℕ) → i < c.header.section_count → section_at own i ≡ section_at c.bytes i
  unfolding section_at
  section_is i under = let room = k.headers in rw (
    number 4 (section_header_from i) (omega (arith, room, under)),
    number 4 (section_header_from i + 4) (omega (arith, room, under)),
    number 4 (section_header_from i + 8) (omega (arith, room, under)),
    number 4 (section_header_from i + 12) (omega (arith, room, under)),
    number 4 (section_header_from i + 16) (omega (arith, room, under)),
    number 4 (section_header_from i + 20) (omega (arith, room, under)),
    number 1 (section_header_from i + 24) (omega (arith, room, under)),
    number 1 (section_header_from i + 25) (omega (arith, room, under)),
    number 1 (section_header_from i + 26) (omega (arith, room, under)),
    number 1 (section_header_from i + 27) (omega (arith, room, under)),
  ) refl

  raw_by : (size offset : ℕ) (none : Bool) → (size == 0) ≡ none → (none || nat_le (offset + size) end) ≡ true → take size (drop offset own) ≡ take size (drop offset c.bytes)
  raw_by size offset true is inside = (let e : size ≡ 0 = eqb-true size 0 is in rw e refl)
  raw_by size offset false is inside =
      let room = leb-true (offset + size) end inside in
      rw (rest-kept offset end c.bytes) (take-take size (end - offset) (drop offset c.bytes) (omega (arith, room)))

  raw_is : (i : ℕ) (s : SectionHeader) → i < c.header.section_count → section_at c.bytes i ≡ Some s → raw_of own s ≡ raw_of c.bytes s
  raw_is i s under there = raw_by s.packed_size s.container_offset (s.packed_size == 0) refl (k.raws i s under there)

  unrefused_is : (i : ℕ) → i < c.header.section_count → section_refusal own c.header i ≡ None
  unrefused_is i under =
      let s = section_header_is c i ok under in
      let unmet = section_unmet c.bytes c.header i s.0 (accepted c ok).sections under s.1 in
      rw (section_is i under, s.1, length-take-le end c.bytes k.within) (tests_unmet i (is_instantiated c.header i) s.0 (length c.bytes) end unmet (k.raws i s.0 under s.1))

  loader_by : (i : ℕ) (s : SectionHeader) → i < c.header.section_count → section_at c.bytes i ≡ Some s → loader_here own c.header i ≡ loader_here c.bytes c.header i
  loader_by i s under there = rw (section_is i under, there, raw_is i s under there) refl

  loader_is : loader_of own c.header ≡ loader_of c.bytes c.header
  loader_is = first_among-same (loader_here own c.header) (loader_here c.bytes c.header) 0 c.header.section_count (λ i low high.
      let under : i < c.header.section_count = omega (arith, high) in
      let s = section_header_is c i ok under in loader_by i s.0 under s.1)

  is_kept : container_of own ≡ Ok kept
  is_kept = (let a = accepted c ok in accepts kept (record {
    header = header_is ∙ a.header;
    tests = rw (length-take-le end c.bytes k.within) (unmet_within c.header (length c.bytes) end (header_unmet c.header (length c.bytes) a.tests) k.headers);
    sections = first_among-none (section_refusal own c.header) 0 c.header.section_count (λ i low high. unrefused_is i (omega (arith, high)));
    loader = loader_is ∙ a.loader;
  }))

  -- the name at an offset
  name_by : (at : ℕ) (name : Option (List ℕ)) → before_zero (drop at c.bytes) ≡ name → ((n : List ℕ) → name ≡ Some n → at + length n < end) → name_at own at ≡ name_at c.bytes at
  unfolding name_at
  name_by at None there room = rw (rest-kept at end c.bytes, there) (no_name-kept (end - at) (drop at c.bytes) there)
  name_by at (Some n) there room =
      let few = room n refl in
      rw (rest-kept at end c.bytes, there) (name-kept (end - at) (drop at c.bytes) n there (omega (arith, few)))

  name_is : (i : ℕ) (s : SectionHeader) (offset : ℤ) → i < c.header.section_count → section_at c.bytes i ≡ Some s → s.name_offset ≡ offset → name_in kept offset ≡ name_in c offset
  name_is i s (pos offset) under there at = name_by (names_from c.header + offset) _ refl (λ n some. k.names i s offset n under there at some)
  name_is i s (negsuc _) under there at = refl

  sections_are : (i : ℕ) → section_of kept i ≡ section_of c i
  sections_are i = elim (cases_lt i c.header.section_count) [
    | inl under ↦ (
        let s = section_header_is c i ok under in
        let e : section_in own s.0 ≡ section_in c.bytes s.0 = rw (raw_is i s.0 under s.1) refl in
        section-there kept i s.0 under (section_is i under ∙ s.1) ∙ (ap Some e ∙ sym (section-there c i s.0 under s.1))
        )
    | inr past ↦ section-past kept i past ∙ sym (section-past c i past)
  ]

  names_are : (i : ℕ) → section_name_of kept i ≡ section_name_of c i
  names_are i = elim (cases_lt i c.header.section_count) [
    | inl under ↦ (
        let s = section_header_is c i ok under in
        rw (sections_are i, section-there c i s.0 under s.1) (name_is i s.0 s.0.name_offset under s.1 refl)
        )
    | inr past ↦ rw (sections_are i, section-past c i past) refl
  ]

  same : IsSame c kept
  same = record { header = refl; loader = refl; sections = sections_are; names = names_are }

-- raw bytes are inside both
inside_both : (none : Bool) (offset size m len : ℕ) → (none || nat_le (offset + size) len) ≡ true → (if none then 0 else offset + size) ≤ m → (none || nat_le (offset + size) (min m len)) ≡ true
inside_both true offset size m len inside room = refl
inside_both false offset size m len inside room = (let low = leb-true (offset + size) len inside in le-leb (offset + size) (min m len) (omega (arith, low, room)))

module _ (c : Contained) (ok : IsContainer c) where
  abbrev starts : ℕ → ℕ
  starts i = name_start c (section_of c i)

  room : names_from c.header ≤ length c.bytes
  room = header_room c.header (length c.bytes) (accepted c ok).tests

  raws_end : (i : ℕ) (s : SectionHeader) → i < c.header.section_count → section_at c.bytes i ≡ Some s → (if s.packed_size == 0 then 0 else s.container_offset + s.packed_size) ≤ parts_end c
  raws_end i s under there =
      let bound : raw_end (section_of c i) ≤ greatest (λ i. raw_end (section_of c i)) 0 c.header.section_count = greatest-bound (λ i. raw_end (section_of c i)) 0 c.header.section_count i (omega arith) (omega (arith, under)) in
      let here = rw (section-there c i s under there) at bound in
      omega (arith, here)

  -- the last name ends no earlier than another
  ends_by : (at last : ℕ) (name : List ℕ) (after : Option (List ℕ)) → before_zero (drop at c.bytes) ≡ Some name → at ≤ last → 1 ≤ at → before_zero (drop last c.bytes) ≡ after
      → at + length name < (if last == 0 then 0 else option_map_or (λ name. last + length name + 1) after (length c.bytes))
  ends_by at last name None there low some is =
      let inside = name-inside (drop at c.bytes) name there in
      let left = length-drop at c.bytes in
      rw (ne_eqb last 0 (λ e. omega (arith, low, some, e))) (omega (arith, inside, left))
  ends_by at last name (Some after) there low some is =
      let e : last ≡ at + (last - at) = omega (arith, low) in
      let rest : drop last c.bytes ≡ drop (last - at) (drop at c.bytes) = ap (λ n. drop n c.bytes) e ∙ sym (drop-drop (last - at) at c.bytes) in
      let before = name-before (last - at) (drop at c.bytes) name after there (sym (ap before_zero rest) ∙ is) in
      rw (ne_eqb last 0 (λ e. omega (arith, low, some, e))) (omega (arith, before, low))

  names_ends : (at : ℕ) (name : List ℕ) → before_zero (drop at c.bytes) ≡ Some name → at ≤ last_name c → 1 ≤ at → at + length name < names_end c (last_name c)
  unfolding name_at
  names_ends at name there low some = ends_by at (last_name c) name (before_zero (drop (last_name c) c.bytes)) there low some refl

  -- a name begins no later than the last one
  begins : (i : ℕ) (s : SectionHeader) (offset : ℕ) → i < c.header.section_count → section_at c.bytes i ≡ Some s → s.name_offset ≡ pos offset → names_from c.header + offset < length c.bytes → names_from c.header + offset ≤ last_name c
  begins i s offset under there at inside =
      let bound : starts i ≤ last_name c = greatest-bound starts 0 c.header.section_count i (omega arith) (omega (arith, under)) in
      rw (section-there c i s under there, at, lt-ltb (names_from c.header + offset) (length c.bytes) inside) at bound

  keeps : Keeps c (min (extent c) (length c.bytes))
  unfolding extent
  keeps = record {
    within = omega arith;
    headers = (let here = room in omega (arith, here));
    raws = λ i s under there.
        let inside = raw_inside c i s ok under there in
        let end = raws_end i s under there in
        inside_both (s.packed_size == 0) s.container_offset s.packed_size (extent c) (length c.bytes) inside (omega (arith, end));
    names = λ i s offset name under there at named.
        let begin = names_from c.header + offset in
        let inside = name-inside (drop begin c.bytes) name named in
        let left = length-drop begin c.bytes in
        let under_end : begin < length c.bytes = omega (arith, inside, left) in
        let end = names_ends begin name named (begins i s offset under there at under_end) (omega arith) in
        omega (arith, inside, left, end);
  }

-- a container has the bytes that it was read from
bytes_by : (bytes : List ℕ) (c : Contained) (h : Option Header) → option_map_or (judged bytes) h (Err TooShort) ≡ Ok c → bytes ≡ c.bytes
bytes_by bytes c None is = absurd (cc)
bytes_by bytes c (Some h) is =
    let a = unless_ok (first_met (header_tests h (length bytes))) _ c is in
    let b = unless_ok (first_among (section_refusal bytes h) 0 h.section_count) _ c a.1 in
    (with_loader_ok bytes h (loader_of bytes h) c b.1).2

container_is : (bytes : List ℕ) (c : Contained) → container_of bytes ≡ Ok c → IsContainer c
unfolding container_of
container_is bytes c is = (let e = bytes_by bytes c (header_of bytes) is in subst (λ xs. container_of xs ≡ Ok c) e is)

-- the own bytes of a container are the same container
pub kept_whole : KeepsContainers
unfolding own_bytes
kept_whole bytes c is =
    let ok : IsContainer c = container_is bytes c is in
    let end = min (extent c) (length c.bytes) in
    let k = keeps c ok in
    let e : take end c.bytes ≡ take (extent c) c.bytes = take_min (extent c) c.bytes in
    (kept c ok end k, subst (λ own. container_of own ≡ Ok (kept c ok end k)) e (is_kept c ok end k), same c ok end k)
