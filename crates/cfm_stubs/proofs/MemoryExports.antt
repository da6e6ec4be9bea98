-- The exports of a stub of memory, symbol by symbol. Each has a name that no export before it has.
use Rattle.std.proofs.Common.{◌≡◌, ◌∙◌, ℕ, ℤ, ◌+◌, ◌*◌, ◌≤◌, ◌||◌, Bool, true, false, cond, List, [], ◌∷◌, ◌++◌, Some, Bor, pos, drop, take, map, slice_get, is_some, append_assoc, refl, sym, ap, subst, arith}
use Rattle.std.specs.Prelude.{if◌then◌else◌}
use Rattle.std.specs.List.{list_any}
use Rattle.std.specs.Map.{lookup}
use Rattle.std.specs.Str.{bytes_eq}
use Rattle.std.proofs.lemmas.List.{map-append, take-append-drop, take_more}
use Rattle.std.proofs.lemmas.Option.{get_or_from_slice_get, slice_get_within}
use Rattle.std.proofs.lemmas.Slice.Eq.{bytes_eq-Decides}
use Rattle.pef_format.specs.Exports.{Export}
use Rattle.pef_names.specs.declared.name_key.NameKey.{NameKey}
use Rattle.pef_script.specs.Parts.{export_of, named}
use Rattle.pef_script.specs.declared.parts.ExportData.{ExportData}
use Rattle.pef_words.proofs.Laws.Lists.{drop-here}
use Rattle.cfm_stubs.specs.declared.memory.Places.{Places}
use Rattle.cfm_stubs.specs.Kept.Places.{IsExportAt, entry_names, exports_in, is_routine_class, is_vector_class, next_places}
use Rattle.cfm_stubs.specs.MemoryStubs.{export_in, is_routine, memory_exports, others}
use Rattle.cfm_stubs.specs.Symbols.{HaveOwnNames, Symbol, are_named}
use Rattle.cfm_stubs.proofs.MemorySteps.{others-here, vector-routine}

-- a table finds a name if an entry has it
lookup-entry : (name : List ℕ) (entries : List (NameKey × ExportData)) → is_some (lookup (λ (k : NameKey). bytes_eq name k.bytes.now) entries) ≡ list_any (bytes_eq name) (entry_names entries)
lookup-entry name [] = refl
lookup-entry name (entry ∷ entries) = by (bytes_eq name entry.0.bytes.now) (lookup-entry name entries)
  where
    by : (here : Bool) → is_some (lookup (λ (k : NameKey). bytes_eq name k.bytes.now) entries) ≡ list_any (bytes_eq name) (entry_names entries)
        → is_some (cond here (Some entry.1) (lookup (λ (k : NameKey). bytes_eq name k.bytes.now) entries)) ≡ (here || list_any (bytes_eq name) (entry_names entries))
    by true later = refl
    by false later = later

any-named : (name : List ℕ) (xs : List Symbol) → list_any (bytes_eq name) (map (λ (s : Symbol). s.name) xs) ≡ are_named xs name
any-named name [] = refl
any-named name (s ∷ xs) = ap (λ b. bytes_eq name s.name || b) (any-named name xs)

-- a symbol has a name that none before it has

parts-false : (a b : Bool) → (a || b) ≡ false → (a ≡ false) × (b ≡ false)
parts-false true b is = absurd (cc)
parts-false false b is = (refl, is)

turned : (b c : Bool) (name other : List ℕ) → bytes_eq name other ≡ b → bytes_eq other name ≡ c → b ≡ false → c ≡ false
turned b true name other first second none =
    let equal : other ≡ name = (bytes_eq-Decides other name).0 second in
    let same : bytes_eq name other ≡ true = ap (λ z. bytes_eq z other) (sym equal) ∙ ap (λ z. bytes_eq other z) equal ∙ second in
    let clash : true ≡ false = sym same ∙ first ∙ none in
    absurd (cc)
turned b false name other first second none = refl

after-unnamed : (ys zs : List Symbol) (s : Symbol) (name : List ℕ) → are_named (ys ++ s ∷ zs) name ≡ false → bytes_eq name s.name ≡ false
after-unnamed [] zs s name none = (parts-false (bytes_eq name s.name) (are_named zs name) none).0
after-unnamed (y ∷ ys) zs s name none = after-unnamed ys zs s name (parts-false (bytes_eq name y.name) (are_named (ys ++ s ∷ zs) name) none).1

own-before : (ys zs : List Symbol) (s : Symbol) → HaveOwnNames (ys ++ s ∷ zs) → are_named ys s.name ≡ false
own-before [] zs s own = refl
own-before (y ∷ ys) zs s own =
    let apart = turned (bytes_eq y.name s.name) (bytes_eq s.name y.name) y.name s.name refl refl (after-unnamed ys zs s y.name own.0) in
    ap (λ b. b || are_named ys s.name) apart ∙ own-before ys zs s own.1

pub lookup-new : (xs : List Symbol) (k : ℕ) (s : Symbol) (entries : List (NameKey × ExportData)) → slice_get xs k ≡ Some s → HaveOwnNames xs → entry_names entries ≡ map (λ (s : Symbol). s.name) (take k xs)
    → is_some (lookup (λ (key : NameKey). bytes_eq s.name key.bytes.now) entries) ≡ false
lookup-new xs k s entries there own names =
    let whole : take k xs ++ s ∷ drop (k + 1) xs ≡ xs = ap (λ z. take k xs ++ z) (sym (drop-here xs k s there)) ∙ take-append-drop k xs in
    lookup-entry s.name entries
    ∙ ap (list_any (bytes_eq s.name)) names
    ∙ any-named s.name (take k xs)
    ∙ own-before (take k xs) (drop (k + 1) xs) s (subst HaveOwnNames (sym whole) own)

-- one more symbol
pub symbols-more : (xs : List Symbol) (k : ℕ) (s : Symbol) → slice_get xs k ≡ Some s → take (k + 1) xs ≡ take k xs ++ s ∷ []
symbols-more xs k s there = take_more xs k s (slice_get_within xs k s there) ∙ ap (λ (x : Symbol). take k xs ++ x ∷ []) (get_or_from_slice_get xs k s s there)

-- .. so the names of one more are those of one more symbol
pub names-more : (xs : List Symbol) (k : ℕ) (name : Bor (List ℕ)) (class : ℕ) (e : ExportData) (old new : List (NameKey × ExportData)) → slice_get xs k ≡ Some (record { name = name.now; class = class })
    → new ≡ old ++ (record { bytes = name }, e) ∷ [] → entry_names old ≡ map (λ (s : Symbol). s.name) (take k xs) → entry_names new ≡ map (λ (s : Symbol). s.name) (take (k + 1) xs)
names-more xs k name class e old new there added before =
    let more = symbols-more xs k (record { name = name.now; class = class }) there in
    ap (λ (es : List (NameKey × ExportData)). entry_names es) added
    ∙ map-append (λ (e : NameKey × ExportData). e.0.bytes.now) old ((record { bytes = name }, e) ∷ [])
    ∙ ap (λ z. z ++ name.now ∷ []) before
    ∙ sym (map-append (λ (s : Symbol). s.name) (take k xs) ((record { name = name.now; class = class }) ∷ []))
    ∙ ap (map (λ (s : Symbol). s.name)) (sym more)

-- the places after a symbol that is a vector, or has code, or has neither
abbrev next_by : Bool → Bool → ℕ → Places → Places
next_by a b size p =
    if a then record { code = p.code + 8; vector = p.vector + 8; zeros = p.zeros }
    else if b then record { code = p.code + 8; vector = p.vector; zeros = p.zeros }
    else record { code = p.code; vector = p.vector; zeros = p.zeros + size }

-- the first export that is left is at the next place
module _ (size : ℕ) (p : Places) (name : Bor (List ℕ)) (class : ℕ) (e : ExportData) (at : IsExportAt class p e) (xs : List Symbol) where
  abbrev left : Places → List Export
  left q = memory_exports size q.code q.vector q.zeros xs

  abbrev here : Symbol
  here = record { name = name.now; class = class }

  by-kind : (a b : Bool) → ◌≡◌ {A = ℤ × ℕ} (e.section, e.value) (if a then (pos 1, p.vector) else if b then (pos 0, p.code) else (pos 1, p.zeros))
      → (if a then export_in here 1 p.vector ∷ memory_exports size (p.code + 8) (p.vector + 8) p.zeros xs else if b then export_in here 0 p.code ∷ memory_exports size (p.code + 8) p.vector p.zeros xs else export_in here 1 p.zeros ∷ memory_exports size p.code p.vector (p.zeros + size) xs)
      ≡ export_of (name, e) ∷ left (next_by a b size p)
  by-kind true b value = λ j. (record { fields = record { class = sym at.class j; section = (sym value j).0; value = (sym value j).1 }; name = name.now }) ∷ memory_exports size (p.code + 8) (p.vector + 8) p.zeros xs
  by-kind false true value = λ j. (record { fields = record { class = sym at.class j; section = (sym value j).0; value = (sym value j).1 }; name = name.now }) ∷ memory_exports size (p.code + 8) p.vector p.zeros xs
  by-kind false false value = λ j. (record { fields = record { class = sym at.class j; section = (sym value j).0; value = (sym value j).1 }; name = name.now }) ∷ memory_exports size p.code p.vector (p.zeros + size) xs

  first-export : memory_exports size p.code p.vector p.zeros (here ∷ xs) ≡ export_of (name, e) ∷ left (next_places size class p)
  first-export = by-kind (is_vector_class class) (is_routine_class class) at.value

-- one more export
pub exports-more : (size : ℕ) (p q : Places) (xs : List Symbol) (k : ℕ) (name : Bor (List ℕ)) (class : ℕ) (e : ExportData) (old new : List (NameKey × ExportData)) (all : List Export) → slice_get xs k ≡ Some (record { name = name.now; class = class }) → IsExportAt class p e → q ≡ next_places size class p
    → new ≡ old ++ (record { bytes = name }, e) ∷ [] → exports_in old ++ memory_exports size p.code p.vector p.zeros (drop k xs) ≡ all → exports_in new ++ memory_exports size q.code q.vector q.zeros (drop (k + 1) xs) ≡ all
exports-more size p q xs k name class e old new all there at next added before =
    let rest = drop (k + 1) xs in
    let n = next_places size class p in
    ap (λ (q : Places). exports_in new ++ memory_exports size q.code q.vector q.zeros rest) next
    ∙ ap (λ (es : List (NameKey × ExportData)). exports_in es ++ memory_exports size n.code n.vector n.zeros rest) added
    ∙ ap (λ z. z ++ memory_exports size n.code n.vector n.zeros rest) (map-append (λ (e : NameKey × ExportData). export_of (named e)) old ((record { bytes = name }, e) ∷ []))
    ∙ append_assoc (exports_in old) (export_of (name, e) ∷ []) (memory_exports size n.code n.vector n.zeros rest)
    ∙ ap (λ z. exports_in old ++ z) (sym (first-export size p name class e at rest))
    ∙ ap (λ z. exports_in old ++ memory_exports size p.code p.vector p.zeros z) (sym (drop-here xs k (record { name = name.now; class = class }) there))
    ∙ before

-- the places after a symbol are near, and what zeros are left begin at the next place

pub code-near : (size class k : ℕ) (p : Places) → p.code ≤ 8 * k → (next_places size class p).code ≤ 8 * (k + 1)
code-near size class k p near = by (is_vector_class class) (is_routine_class class)
  where
    by : (a b : Bool) → (next_by a b size p).code ≤ 8 * (k + 1)
    by true b = omega (arith, near)
    by false true = omega (arith, near)
    by false false = omega (arith, near)

pub vector-near : (size class k : ℕ) (p : Places) → p.vector ≤ 8 * k → (next_places size class p).vector ≤ 8 * (k + 1)
vector-near size class k p near = by (is_vector_class class) (is_routine_class class)
  where
    by : (a b : Bool) → (next_by a b size p).vector ≤ 8 * (k + 1)
    by true b = omega (arith, near)
    by false true = omega (arith, near)
    by false false = omega (arith, near)

pub zeros-next : (size : ℕ) (p : Places) (xs : List Symbol) (k : ℕ) (s : Symbol) → slice_get xs k ≡ Some s → (next_places size s.class p).zeros + size * others (drop (k + 1) xs) ≡ p.zeros + size * others (drop k xs)
zeros-next size p xs k s there = by (is_vector_class s.class) (is_routine_class s.class) (vector-routine s.class) (others-here xs k s there (is_routine_class s.class) refl)
  where
    by : (a b : Bool) → (a ≡ true → b ≡ true) → others (drop k xs) ≡ (if b then others (drop (k + 1) xs) else others (drop (k + 1) xs) + 1)
        → (next_by a b size p).zeros + size * others (drop (k + 1) xs) ≡ p.zeros + size * others (drop k xs)
    by true true both left = ap (λ n. p.zeros + size * n) (sym left)
    by true false both left = (let clash = both refl in absurd (cc))
    by false true both left = ap (λ n. p.zeros + size * n) (sym left)
    by false false both left =
        let sum : p.zeros + size + size * others (drop (k + 1) xs) ≡ p.zeros + size * (others (drop (k + 1) xs) + 1) = omega arith in
        sum ∙ ap (λ n. p.zeros + size * n) (sym left)

-- there is room for the zeros of a symbol
pub zeros-fit : (size blank total : ℕ) (xs : List Symbol) (k : ℕ) (s : Symbol) → slice_get xs k ≡ Some s → is_routine s ≡ false → blank + size * others (drop k xs) ≡ total → blank + size ≤ total
zeros-fit size blank total xs k s there plain room =
    let sum : size * (others (drop (k + 1) xs) + 1) ≡ size * others (drop (k + 1) xs) + size = omega arith in
    let left : size * others (drop k xs) ≡ size * others (drop (k + 1) xs) + size = ap (λ n. size * n) (others-here xs k s there false plain) ∙ sum in
    omega (arith, room, left)
