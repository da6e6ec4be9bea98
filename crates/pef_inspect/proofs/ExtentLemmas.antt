-- The parts of a container, as they are found one after the other.
use Rattle.std.proofs.Common.{◌≡◌, ◌∙◌, ℕ, zero, suc, ◌+◌, ◌-◌, ◌<◌, Bool, true, false, cond, max, List, [], ◌∷◌, ◌++◌, get_or, take, drop, length, Option, None, Some, refl, sym, ap, arith}
use Rattle.std.specs.Prelude.{ℤ, pos, negsuc, nat_lt, ◌==◌, option_map}
use Rattle.std.specs.Option.{option_to_list}
use Rattle.std.proofs.lemmas.Bool.{ltb-true}
use Rattle.std.proofs.lemmas.List.{length-drop, take_more}
use Rattle.std.proofs.lemmas.Option.{cond_some}
use Rattle.std.proofs.Math.Seq.{drop-cons}
use Rattle.pef_words.specs.Bytes.{before_zero, name_at}
use Rattle.pef_views.specs.Container.{Contained}
use Rattle.pef_views.specs.Header.{names_from}
use Rattle.pef_views.specs.Partial as views
use Rattle.pef_views.specs.declared.section.SectionHeader.{SectionHeader}
use Rattle.pef_words.specs.Refusals.{◌>>=◌}
use Rattle.pef_inspect.specs.Extents.{Extent, greatest_end, last_name, later, name_offset, parts_notes}
use Rattle.pef_inspect.specs.Oddities.{name_begins}
use Rattle.pef_inspect.specs.declared.finding.Finding.{Finding}

pub last_name-next : (c : Contained) (i n : ℕ) → i < n → last_name c i (n - i) ≡ later (name_offset c i) (last_name c (i + 1) (n - (i + 1)))
last_name-next c i n under =
    let e : n - i ≡ suc (n - (i + 1)) = omega arith in
    rw e refl

max-assoc : (x y z : ℕ) → max (max x y) z ≡ max x (max y z)
max-assoc x y z = grind arith

pub later-assoc : (a b c : Option ℕ) → later (later a b) c ≡ later a (later b c)
later-assoc None b c = refl
later-assoc (Some x) None c = refl
later-assoc (Some x) (Some y) None = refl
later-assoc (Some x) (Some y) (Some z) = ap Some (max-assoc x y z)

-- a name begins in the container
record IsBelow (o : Option ℕ) (limit : ℕ) : Type 0 where
  pub below : (x : ℕ) → o ≡ Some x → x < limit

begins-below : (c : Contained) (z : ℤ) → IsBelow (name_begins c z) (length c.bytes - names_from c.header)
begins-below c (pos offset) = record {
  below = λ x is.
      (let met = cond_some (nat_lt offset (length c.bytes - names_from c.header)) offset x is in
      let under = ltb-true offset (length c.bytes - names_from c.header) met.0 in
      let same = met.1 in
      omega arith);
}
begins-below c (negsuc n) = record { below = λ x is. absurd (cc is) }

offset-below : (c : Contained) (o : Option SectionHeader) → IsBelow (o >>= (λ s. name_begins c s.name_offset)) (length c.bytes - names_from c.header)
offset-below c None = record { below = λ x is. absurd (cc is) }
offset-below c (Some s) = begins-below c s.name_offset

later-below : (a b : Option ℕ) (limit : ℕ) → IsBelow a limit → IsBelow b limit → IsBelow (later a b) limit
later-below None b limit one other = other
later-below (Some x) None limit one other = one
later-below (Some x) (Some y) limit one other = record {
  below = λ z is.
      (let first = one.below x refl in
      let second = other.below y refl in
      let same : max x y ≡ z = cc is in
      let most : max x y < limit = grind (arith, first, second) in
      omega (arith, same, most));
}

last-below : (c : Contained) (from n : ℕ) → IsBelow (last_name c from n) (length c.bytes - names_from c.header)
last-below c from zero = record { below = λ x is. absurd (cc is) }
last-below c from (suc n) = later-below (name_offset c from) (last_name c (from + 1) n) (length c.bytes - names_from c.header) (offset-below c (views.header_in c from)) (last-below c (from + 1) n)

-- so the name that begins last does
pub last_name-inside : (c : Contained) (n x : ℕ) → last_name c 0 n ≡ Some x → x < length c.bytes - names_from c.header
last_name-inside c n x is = (last-below c 0 n).below x is

-- a name ends before the end
before_zero-shorter : (bytes name : List ℕ) → before_zero bytes ≡ Some name → length name < length bytes
before_zero-shorter [] name is = absurd (cc is)
before_zero-shorter (b ∷ bytes) name is = by (b == 0) (before_zero bytes) is (before_zero-shorter bytes)
  where
    by : (zero? : Bool) (rest : Option (List ℕ)) → cond zero? (Some []) (option_map (λ name. b ∷ name) rest) ≡ Some name → ((name : List ℕ) → rest ≡ Some name → length name < length bytes) → length name < length (b ∷ bytes)
    by true rest is shorter = (let same : [] ≡ name = cc is in let none = ap length same in omega arith)
    by false None is shorter = absurd (cc is)
    by false (Some front) is shorter = (let same : b ∷ front ≡ name = cc is in let long = ap length same in let less = shorter front refl in omega (arith, long, less))

pub name_at-inside : (bytes : List ℕ) (from : ℕ) (name : List ℕ) → name_at bytes from ≡ Some name → from + length name < length bytes
unfolding name_at
name_at-inside bytes from name is =
    let less = before_zero-shorter (drop from bytes) name is in
    let rest = length-drop from bytes in
    omega (arith, less, rest)

-- where one part more ends
pub greatest_end-more : (extents : List Extent) (e : Extent) → greatest_end (extents ++ e ∷ []) ≡ max (greatest_end extents) e.2
greatest_end-more [] e = grind arith
greatest_end-more (x ∷ extents) e =
    let rest = greatest_end-more extents e in
    rw rest (sym (max-assoc x.2 (greatest_end extents) e.2))

-- the note on a part, and those on the parts after it
pub parts_notes-next : (note : ℕ → Extent → Option Finding) (extents : List Extent) (i : ℕ) (d : Extent) → i < length extents → parts_notes note (take i extents) (drop i extents) ≡ option_to_list (note (greatest_end (take i extents)) (get_or extents i d)) ++ parts_notes note (take (i + 1) extents) (drop (i + 1) extents)
parts_notes-next note extents i d under =
    let e : suc i ≡ i + 1 = omega arith in
    let left : drop i extents ≡ get_or extents i d ∷ drop (i + 1) extents = drop-cons extents i d under ∙ ap (λ n. get_or extents i d ∷ drop n extents) e in
    ap (parts_notes note (take i extents)) left
    ∙ ap (λ front. option_to_list (note (greatest_end (take i extents)) (get_or extents i d)) ++ parts_notes note front (drop (i + 1) extents)) (sym (take_more extents i d under))
