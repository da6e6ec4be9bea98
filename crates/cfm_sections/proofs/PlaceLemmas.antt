-- The extents of a container's sections, one after the other.
use Rattle.std.proofs.Common.{◌≡◌, ℕ, zero, suc, ◌+◌, ◌-◌, ◌<◌, List, [], ◌∷◌, ◌++◌, refl, sym, ap, subst, ◌∙◌, length, get_or, replicate, inl, inr, arith}
use Rattle.cfm_memory.specs.Extents.{ArePlacedBy, ArePlacedWith, Extent, HasNoPlaceBy, IsPlaceBy, LackPlaceBy, Rule, place_at, rule_after, with_filled, with_one}
use Rattle.cfm_memory.specs.Instances.{Layout}
use Rattle.cfm_memory.specs.Placement.{with_new}
use Rattle.cfm_sections.specs.Unplaced.{LacksPlaceFor, MayNotPlaceAll}
use Rattle.cfm_sections.specs.Kept.Unplaced.{MayRefuseFor}
use Rattle.cfm_sections.specs.declared.places.Unplaced.{Unplaced}
use Rattle.cfm_sections.specs.declared.places.Unplaced.TheVariants.{NoRoom, OutOfMemory}
use Rattle.cfm_memory.specs.declared.place.Place.{Place}
use Rattle.cfm_memory.proofs.Laws.{SameShape, after-both, after-none, filled_next, length-placed, no_extent, placed-append, placed_size, shape_back, shape_lack, shape_place, shape_self, shape_with, with_shape}
use Rattle.pef_views.specs.Container.{Contained}
use Rattle.cfm_sections.specs.Images.{extent_at, extents_from, extents_of}

-- some extents and those after them
extents_split : (c : Contained) (from i n : ℕ) → extents_from c from (i + n) ≡ extents_from c from i ++ extents_from c (from + i) n
extents_split c from zero n =
    let none : zero + n ≡ n = omega arith in
    let here : from + 0 ≡ from = omega arith in
    rw (none, here) refl
extents_split c from (suc i) n =
    let more : suc i + n ≡ suc (i + n) = omega arith in
    let next : from + suc i ≡ from + 1 + i = omega arith in
    rw (more, next) (ap (λ es. extent_at c from ∷ es) (extents_split c (from + 1) i n))

-- one extent more
pub extents_next : (c : Contained) (i : ℕ) → extents_from c 0 (i + 1) ≡ extents_from c 0 i ++ extent_at c i ∷ []
extents_next c i =
    let here : 0 + i ≡ i = omega arith in
    extents_split c 0 i 1 ∙ ap (λ j. extents_from c 0 i ++ extent_at c j ∷ []) here

-- an extent among others
extents_around : (c : Contained) (i n : ℕ) → i < n → extents_from c 0 n ≡ extents_from c 0 i ++ extent_at c i ∷ extents_from c (i + 1) (n - (i + 1))
extents_around c i n under =
    let all : n ≡ i + suc (n - (i + 1)) = omega arith in
    let here : 0 + i ≡ i = omega arith in
    ap (extents_from c 0) all ∙ extents_split c 0 i (suc (n - (i + 1))) ∙ ap (λ j. extents_from c 0 i ++ extents_from c j (suc (n - (i + 1)))) here

pub length-extents : (c : Contained) (from n : ℕ) → length (extents_from c from n) ≡ n
length-extents c from zero = refl
length-extents c from (suc n) = ap suc (length-extents c (from + 1) n)

pub extent-is : (c : Contained) (from n k : ℕ) → k < n → get_or (extents_from c from n) k no_extent ≡ extent_at c (from + k)
extent-is c from zero k under = absurd (omega arith)
extent-is c from (suc n) zero under = let here : from ≡ from + 0 = omega arith in ap (extent_at c) here
extent-is c from (suc n) (suc k) under =
    let next : from + 1 + k ≡ from + suc k = omega arith in
    extent-is c (from + 1) n k (omega arith) ∙ ap (extent_at c) next

-- as many places as sections were placed
pub count-placed : (rule : Rule) (c : Contained) (m mid : Layout) (places : List Place) (i : ℕ) → ArePlacedBy rule m (extents_from c 0 i) places mid → length places ≡ i
count-placed rule c m mid places i placed = length-placed rule m (extents_from c 0 i) places mid placed ∙ length-extents c 0 i

-- a section more is placed
placed_next : (rule : Rule) (c : Contained) (m mid : Layout) (places : List Place) (i : ℕ) (p : Place) → ArePlacedBy rule m (extents_from c 0 i) places mid → IsPlaceBy (rule_after rule i) mid (extent_at c i) p
    → ArePlacedBy rule m (extents_from c 0 (i + 1)) (places ++ p ∷ []) (with_new mid p)
placed_next rule c m mid places i p placed is =
    let P : ℕ → Type 0 = λ n. IsPlaceBy (rule_after rule n) mid (extent_at c i) p in
    let here = subst P (sym (count-placed rule c m mid places i placed)) is in
    subst (λ es. ArePlacedBy rule m es (places ++ p ∷ []) (with_new mid p)) (sym (extents_next c i))
    (placed-append rule m mid (with_new mid p) (extents_from c 0 i) (extent_at c i ∷ []) places (p ∷ []) placed (here, refl))

-- the section after those that were placed has no place
lacks_at : (rule : Rule) (m mid : Layout) (extents : List Extent) (e : Extent) (others : List Extent) (places : List Place) → ArePlacedBy rule m extents places mid → HasNoPlaceBy (rule_after rule (length extents)) mid e
    → LacksPlaceFor rule m (extents ++ e ∷ others) (length extents)
lacks_at rule m mid [] e others [] placed none = let P : Layout → Type 0 = λ k. HasNoPlaceBy rule k e in subst P placed (subst (λ r. HasNoPlaceBy r mid e) (after-none rule) none)
lacks_at rule m mid [] e others (p ∷ places) placed none = absurd placed
lacks_at rule m mid (x ∷ xs) e others [] placed none = absurd placed
lacks_at rule m mid (x ∷ xs) e others (p ∷ places) placed none =
    let count : suc (length xs) ≡ 1 + length xs = omega arith in
    let rest = subst (λ r. HasNoPlaceBy r mid e) (ap (rule_after rule) count ∙ sym (after-both rule 1 (length xs))) none in
    (p, placed.0, lacks_at (rule_after rule 1) (with_new m p) mid xs e others places placed.1 rest)

-- a section that is refused is the first of them
refused_here : (fault : Unplaced) (rule : Rule) (c : Contained) (m mid : Layout) (places : List Place) (i n : ℕ) → i < n → ArePlacedBy rule m (extents_from c 0 i) places mid → MayRefuseFor (rule_after rule i) mid (extent_at c i) i fault
    → MayNotPlaceAll fault rule m (extents_from c 0 n)
refused_here (NoRoom section) rule c m mid places i n under placed refused =
    let rest = extents_from c (i + 1) (n - (i + 1)) in
    let P : List Extent → Type 0 = λ es. LacksPlaceFor rule m es section in
    let Q : ℕ → Type 0 = λ k. LacksPlaceFor rule m (extents_from c 0 i ++ extent_at c i ∷ rest) k in
    let N : ℕ → Type 0 = λ k. HasNoPlaceBy (rule_after rule k) mid (extent_at c i) in
    subst P (sym (extents_around c i n under))
    (subst Q (length-extents c 0 i ∙ sym refused.0) (lacks_at rule m mid (extents_from c 0 i) (extent_at c i) rest places placed (subst N (sym (length-extents c 0 i)) refused.1)))
refused_here OutOfMemory rule c m mid places i n under placed refused = tt

-- the same in memory that has other bytes
refuse-moved : (rule : Rule) (m n : Layout) (e : Extent) (k : ℕ) (fault : Unplaced) → SameShape m n → MayRefuseFor rule m e k fault → MayRefuseFor rule n e k fault
refuse-moved rule m n e k (NoRoom section) shape refused = (refused.0, shape_lack rule m n e shape refused.1)
refuse-moved rule m n e k OutOfMemory shape refused = tt

pub refused_with : (fault : Unplaced) (rule : Rule) (c : Contained) (bytes : ℕ → List ℕ) (m mid : Layout) (places : List Place) (i n : ℕ) → i < n → ArePlacedWith rule m (extents_from c 0 i) bytes places mid → MayRefuseFor (rule_after rule i) mid (extent_at c i) i fault
    → MayNotPlaceAll fault rule m (extents_from c 0 n)
refused_with fault rule c bytes m mid places i n under all refused =
    let moved = with_shape rule m m (extents_from c 0 i) bytes places mid (shape_self m) all in
    refused_here fault rule c m moved.0 places i n under moved.1 (refuse-moved (rule_after rule i) mid moved.0 (extent_at c i) i fault (shape_back moved.0 mid moved.2) refused)

-- the bytes that are given for one place more have its size
sizes-next : (bytes : ℕ → List ℕ) (places : List Place) (p : Place) → ((k : ℕ) → k < length places → length (bytes k) ≡ (place_at places k).size) → length (bytes (length places)) ≡ p.size
    → (k : ℕ) → k < length (places ++ p ∷ []) → length (bytes k) ≡ (place_at (places ++ p ∷ []) k).size
sizes-next bytes [] p sizes last zero under = last
sizes-next bytes [] p sizes last (suc k) under = absurd (omega (arith, under))
sizes-next bytes (q ∷ places) p sizes last zero under = sizes 0 (omega arith)
sizes-next bytes (q ∷ places) p sizes last (suc k) under = sizes-next (λ j. bytes (suc j)) places p (λ j low. sizes (suc j) (omega (arith, low))) last k (omega (arith, under))

-- no section is placed yet
pub none_placed : (rule : Rule) (m : Layout) (bytes : ℕ → List ℕ) (places : List Place) → places ≡ [] → ArePlacedWith rule m [] bytes places m
none_placed rule m bytes places none =
    let P : List Place → Type 0 = λ ps. ArePlacedWith rule m [] bytes ps m in
    subst P (sym none) (record { empty = m; placed = refl; lengths = λ k under. absurd (omega (arith, under)); filled = refl })

-- a section more is placed with its bytes
pub placed_with_next : (rule : Rule) (c : Contained) (bytes : ℕ → List ℕ) (m mid : Layout) (places : List Place) (i : ℕ) (p : Place) → ArePlacedWith rule m (extents_from c 0 i) bytes places mid → IsPlaceBy (rule_after rule i) mid (extent_at c i) p
    → length (bytes i) ≡ p.size → ArePlacedWith rule m (extents_from c 0 (i + 1)) bytes (places ++ p ∷ []) (with_one mid p (bytes i))
placed_with_next rule c bytes m mid places i p all is len =
    let count = count-placed rule c m all.empty places i all.placed in
    let moved = with_shape rule m m (extents_from c 0 i) bytes places mid (shape_self m) all in
    let last : length (bytes (length places)) ≡ p.size = ap (λ n. length (bytes n)) count ∙ len in
    record {
      empty = with_new moved.0 p;
      placed = placed_next rule c m moved.0 places i p moved.1 (shape_place (rule_after rule i) mid moved.0 (extent_at c i) p (shape_back moved.0 mid moved.2) is);
      lengths = sizes-next bytes places p all.lengths last;
      filled = ap (λ (k : Layout). with_one k p (bytes i)) all.filled ∙ ap (λ n. with_one (with_filled m places bytes) p (bytes n)) (sym count) ∙ sym (filled_next m places p bytes);
    }

-- there are as many places as instantiated sections
pub length-fragment : (rule : Rule) (c : Contained) (m after : Layout) (places : List Place) → ArePlacedBy rule m (extents_of c) places after → length places ≡ c.header.instantiated_section_count
length-fragment rule c m after places placed = length-placed rule m (extents_of c) places after placed ∙ length-extents c 0 c.header.instantiated_section_count

-- and each has the size of its section
pub size-fragment : (rule : Rule) (c : Contained) (m after : Layout) (places : List Place) → ArePlacedBy rule m (extents_of c) places after → (k : ℕ) → k < length places → (place_at places k).size ≡ (extent_at c k).size
size-fragment rule c m after places placed k under =
    let n = c.header.instantiated_section_count in
    let len = length-fragment rule c m after places placed in
    let here : 0 + k ≡ k = omega arith in
    placed_size rule m (extents_of c) places after placed k ∙ ap (λ (e : Extent). e.size) (extent-is c 0 n k (omega (arith, under, len)) ∙ ap (extent_at c) here)

-- extents of which one has no place lack it
pub lacks-one : (rule : Rule) (m : Layout) (extents : List Extent) (k : ℕ) → LacksPlaceFor rule m extents k → LackPlaceBy rule m extents
lacks-one rule m [] k lacks = lacks
lacks-one rule m (e ∷ extents) zero lacks = inl lacks
lacks-one rule m (e ∷ extents) (suc k) lacks = inr (lacks.0, lacks.1, lacks-one (rule_after rule 1) (with_new m lacks.0) extents k lacks.2)

-- a section has no place in memory that has other bytes either
pub lacks-moved : (rule : Rule) (m n : Layout) (extents : List Extent) (k : ℕ) → SameShape m n → LacksPlaceFor rule m extents k → LacksPlaceFor rule n extents k
lacks-moved rule m n [] k shape lacks = lacks
lacks-moved rule m n (e ∷ extents) zero shape lacks = shape_lack rule m n e shape lacks
lacks-moved rule m n (e ∷ extents) (suc k) shape lacks =
    let p = lacks.0 in
    (p, shape_place rule m n e p shape lacks.1, lacks-moved (rule_after rule 1) (with_new m p) (with_new n p) extents k (shape_with m n p (replicate p.size 0) (replicate p.size 0) refl shape) lacks.2)
