-- The script of a stub of memory is one: its names, its sections and its exports keep the limits.
use Rattle.std.proofs.Common.{◌≡◌, ◌∙◌, ℕ, ◌+◌, ◌*◌, ◌^◌, ◌<◌, ◌≤◌, ◌==◌, ◌||◌, Bool, true, false, List, [], ◌∷◌, ◌++◌, None, length, map, refl, sym, ap, subst, arith}
use Rattle.std.specs.Prelude.{if◌then◌else◌, nat_le, nat_lt, not}
use Rattle.std.specs.List.{AllByRecursion, IsDistinct, list_all, list_any, sum_by}
use Rattle.std.specs.Str.{bytes_eq}
use Rattle.std.proofs.lemmas.Bool.{and_parts, le-leb, leb-false, ltb-false}
use Rattle.std.proofs.lemmas.List.{length-append, length-map}
use Rattle.std.proofs.lemmas.List.Sums.{sum_by-cons}
use Rattle.byteorder.specs.Endian.{big_bytes}
use Rattle.byteorder.specs.Numbers.{length-bytes_high_first}
use Rattle.pef_format.specs.Exports.{Export}
use Rattle.pef_format.specs.Symbols.{is_class}
use Rattle.pef_lines.specs.Words.{is_printing, is_word}
use Rattle.pef_reloc.specs.Fixups.{fixup_fits, fixups_end, fixups_fit, fixups_from}
use Rattle.pef_reloc.specs.Limits.{most_fixups}
use Rattle.pef_reloc.specs.declared.fixup.Base.TheVariants.{Section}
use Rattle.pef_reloc.specs.declared.fixup.Fixup.{Fixup}
use Rattle.pef_reloc.proofs.Laws.{no_fixups_fit}
use Rattle.pef_script.specs.Script.{bytes_of_names}
use Rattle.pef_script.specs.WellFormed.{BaseThere, ExportHolds, IsName, ScriptHolds, SectionHolds, VersionsHold}
use Rattle.pef_script.specs.declared.parts.Versions.{Versions}
use Rattle.pef_words.specs.Refusals.{first_met}
use Rattle.pef_words.proofs.Laws.Refusals.{first_unmet}
use Rattle.cfm_stubs.proofs.MemorySteps.{vector-routine, vectors-few}
use Rattle.cfm_stubs.specs.declared.fault.StubFault.TheVariants as fault
use Rattle.cfm_stubs.specs.MemoryStubs.{code_image, code_section, data_section, data_total, export_in, is_routine, is_unspellable, is_vector, memory_exports, memory_script, memory_tests, others, routine_code, routines, script_class, vector_fixups, vector_image, vectors, zeros_from}
use Rattle.cfm_stubs.specs.Symbols.{HaveOwnNames, Symbol, are_named}

-- how many there are

pub routines-few : (xs : List Symbol) → routines xs ≤ length xs
routines-few [] = omega arith
routines-few (s ∷ xs) = by (is_routine s) (routines-few xs)
  where
    by : (b : Bool) → routines xs ≤ length xs → (if b then routines xs + 1 else routines xs) ≤ length (s ∷ xs)
    by true later = omega (arith, later)
    by false later = omega (arith, later)

-- how long the images are

length-two : (a b : ℕ) → length (big_bytes 4 a ++ big_bytes 4 b) ≡ 8
length-two a b = omega (arith, length-append (big_bytes 4 a) (big_bytes 4 b), length-bytes_high_first 4 a, length-bytes_high_first 4 b)

pub length-code : (word : ℕ) (xs : List Symbol) → length (code_image word xs) ≡ 8 * routines xs
length-code word [] = refl
length-code word (s ∷ xs) = by (is_routine s) (length-code word xs)
  where
    by : (b : Bool) → length (code_image word xs) ≡ 8 * routines xs → length (if b then routine_code word ++ code_image word xs else code_image word xs) ≡ 8 * (if b then routines xs + 1 else routines xs)
    by true later = omega (arith, length-append (routine_code word) (code_image word xs), length-two word 0x4E800020, later)
    by false later = later

length-vector_image : (code : ℕ) (xs : List Symbol) → length (vector_image code xs) ≡ 8 * vectors xs
length-vector_image code [] = refl
length-vector_image code (s ∷ xs) = by (is_vector s) (is_routine s) (length-vector_image (code + 8) xs) (length-vector_image code xs)
  where
    by : (v r : Bool) → length (vector_image (code + 8) xs) ≡ 8 * vectors xs → length (vector_image code xs) ≡ 8 * vectors xs → length (if v then big_bytes 4 code ++ (big_bytes 4 0 ++ vector_image (code + 8) xs) else if r then vector_image (code + 8) xs else vector_image code xs) ≡ 8 * (if v then vectors xs + 1 else vectors xs)
    by true r later same = omega (arith, length-append (big_bytes 4 code) (big_bytes 4 0 ++ vector_image (code + 8) xs), length-append (big_bytes 4 0) (vector_image (code + 8) xs), length-bytes_high_first 4 code, length-bytes_high_first 4 0, later)
    by false true later same = later
    by false false later same = same

-- the fixups are in order, inside, and of the two sections

abbrev code_word : ℕ → Fixup
code_word at = record { offset = at; base = Section 0 }

abbrev data_word : ℕ → Fixup
data_word at = record { offset = at + 4; base = Section 1 }

length-fixups : (at : ℕ) (xs : List Symbol) → length (vector_fixups at xs) ≡ 2 * vectors xs
length-fixups at [] = refl
length-fixups at (s ∷ xs) = by (is_vector s) (length-fixups (at + 8) xs) (length-fixups at xs)
  where
    by : (v : Bool) → length (vector_fixups (at + 8) xs) ≡ 2 * vectors xs → length (vector_fixups at xs) ≡ 2 * vectors xs → length (if v then code_word at ∷ data_word at ∷ vector_fixups (at + 8) xs else vector_fixups at xs) ≡ 2 * (if v then vectors xs + 1 else vectors xs)
    by true later same = omega (arith, later)
    by false later same = same

fixups-end : (at : ℕ) (xs : List Symbol) → fixups_end at (vector_fixups at xs) ≡ at + 8 * vectors xs
fixups-end at [] = omega arith
fixups-end at (s ∷ xs) = by (is_vector s) (fixups-end (at + 8) xs) (fixups-end at xs)
  where
    by : (v : Bool) → fixups_end (at + 8) (vector_fixups (at + 8) xs) ≡ at + 8 + 8 * vectors xs → fixups_end at (vector_fixups at xs) ≡ at + 8 * vectors xs → fixups_end at (if v then code_word at ∷ data_word at ∷ vector_fixups (at + 8) xs else vector_fixups at xs) ≡ at + 8 * (if v then vectors xs + 1 else vectors xs)
    by true later same =
        let e : at + 4 + 4 ≡ at + 8 = omega arith in
        let sum : at + 8 + 8 * vectors xs ≡ at + 8 * (vectors xs + 1) = omega arith in
        ap (λ n. fixups_end n (vector_fixups (at + 8) xs)) e ∙ later ∙ sum
    by false later same = same

one-fits : (end : ℕ) (f : Fixup) (fs : List Fixup) → end ≤ f.offset → fixup_fits f ≡ true → fixups_from (f.offset + 4) fs ≡ true → fixups_from end (f ∷ fs) ≡ true
one-fits end f fs after fits later = rw (le-leb end f.offset after, fits, later) refl

fixups-apart : (at : ℕ) (xs : List Symbol) → at + 8 * vectors xs ≤ 2 ^ 24 → fixups_from at (vector_fixups at xs) ≡ true
fixups-apart at [] room = refl
fixups-apart at (s ∷ xs) room = by (is_vector s) (fixups-apart (at + 8) xs) (fixups-apart at xs) room
  where
    by : (v : Bool) → (at + 8 + 8 * vectors xs ≤ 2 ^ 24 → fixups_from (at + 8) (vector_fixups (at + 8) xs) ≡ true) → (at + 8 * vectors xs ≤ 2 ^ 24 → fixups_from at (vector_fixups at xs) ≡ true) → at + 8 * (if v then vectors xs + 1 else vectors xs) ≤ 2 ^ 24 → fixups_from at (if v then code_word at ∷ data_word at ∷ vector_fixups (at + 8) xs else vector_fixups at xs) ≡ true
    by true more same room =
        let e : at + 8 ≡ at + 4 + 4 = omega arith in
        let later : fixups_from (at + 4 + 4) (vector_fixups (at + 8) xs) ≡ true = ap (λ n. fixups_from n (vector_fixups (at + 8) xs)) (sym e) ∙ more (omega (arith, room)) in
        let first : fixup_fits (code_word at) ≡ true = rw (le-leb (at + 4) (2 ^ 24) (omega (arith, room))) refl in
        let second : fixup_fits (data_word at) ≡ true = rw (le-leb (at + 4 + 4) (2 ^ 24) (omega (arith, room))) refl in
        one-fits at (code_word at) (data_word at ∷ vector_fixups (at + 8) xs) (omega arith) first (one-fits (at + 4) (data_word at) (vector_fixups (at + 8) xs) (omega arith) second later)
    by false more same room = same room

fixups-there : (at : ℕ) (xs : List Symbol) → AllByRecursion (λ (f : Fixup). BaseThere 2 0 f.base) (vector_fixups at xs)
fixups-there at [] = tt
fixups-there at (s ∷ xs) = by (is_vector s) (fixups-there (at + 8) xs) (fixups-there at xs)
  where
    by : (v : Bool) → AllByRecursion (λ (f : Fixup). BaseThere 2 0 f.base) (vector_fixups (at + 8) xs) → AllByRecursion (λ (f : Fixup). BaseThere 2 0 f.base) (vector_fixups at xs) → AllByRecursion (λ (f : Fixup). BaseThere 2 0 f.base) (if v then code_word at ∷ data_word at ∷ vector_fixups (at + 8) xs else vector_fixups at xs)
    by true later same = (omega arith, (omega arith, later))
    by false later same = same

fixups-good : (xs : List Symbol) → length xs < 2 ^ 14 → fixups_fit (vector_fixups 0 xs) ≡ true
unfolding fixups_fit
fixups-good xs few =
    let count : length (vector_fixups 0 xs) ≤ most_fixups = omega (arith, length-fixups 0 xs, vectors-few xs) in
    rw (le-leb (length (vector_fixups 0 xs)) most_fixups count, fixups-apart 0 xs (omega (arith, vectors-few xs, few))) refl

-- the exports

class-named : (class : ℕ) → is_class (script_class class) ≡ true
class-named class = by (nat_le class 4) refl
  where
    by : (b : Bool) → nat_le class 4 ≡ b → is_class (if b then class else 1) ≡ true
    by true is = is
    by false is = refl

apart-false : (a b : Bool) → (a || b) ≡ false → (a ≡ false) × (b ≡ false)
apart-false true b is = absurd (cc)
apart-false false b is = (refl, is)

not-false : (b : Bool) → not b ≡ false → b ≡ true
not-false true is = refl
not-false false is = absurd (cc)

word-name : (name : List ℕ) → is_word name ≡ true → length name ≤ 255 → IsName name
word-name [] is most = absurd (cc)
word-name (b ∷ bytes) is most = record { least = omega arith; most = most; bytes = (and_parts (not (length (b ∷ bytes) == 0)) (list_all is_printing (b ∷ bytes)) is).1 }

spelled-name : (s : Symbol) → is_unspellable s ≡ false → IsName s.name
spelled-name s is =
    let parts = apart-false (not (is_word s.name)) (nat_lt 255 (length s.name)) is in
    word-name s.name (not-false (is_word s.name) parts.0) (ltb-false 255 (length s.name) parts.1)

module _ (size code_bytes data_bytes : ℕ) where
  abbrev totals : List ℕ
  totals = code_bytes ∷ data_bytes ∷ []

  at-code : (s : Symbol) (code : ℕ) → IsName s.name → code ≤ code_bytes → ExportHolds totals 0 (export_in s 0 code)
  at-code s code name inside = record { name = name; class = class-named s.class; section = refl; value = record { there = omega arith; inside = inside } }

  at-data : (s : Symbol) (offset : ℕ) → IsName s.name → offset ≤ data_bytes → ExportHolds totals 0 (export_in s 1 offset)
  at-data s offset name inside = record { name = name; class = class-named s.class; section = refl; value = record { there = omega arith; inside = inside } }

  each-export : (code vector blank : ℕ) (xs : List Symbol) → list_any is_unspellable xs ≡ false → code + 8 * routines xs ≤ code_bytes → vector + 8 * vectors xs ≤ data_bytes → blank + size * others xs ≤ data_bytes
      → AllByRecursion (ExportHolds totals 0) (memory_exports size code vector blank xs)
  each-export code vector blank [] spelled c v z = tt
  each-export code vector blank (s ∷ xs) spelled c v z =
      by (is_vector s) (is_routine s) (vector-routine s.class) (λ code vector blank. each-export code vector blank xs parts.1) c v z
    where
      parts : (is_unspellable s ≡ false) × (list_any is_unspellable xs ≡ false)
      parts = apart-false (is_unspellable s) (list_any is_unspellable xs) spelled

      by : (a b : Bool) → (a ≡ true → b ≡ true)
          → ((code vector blank : ℕ) → code + 8 * routines xs ≤ code_bytes → vector + 8 * vectors xs ≤ data_bytes → blank + size * others xs ≤ data_bytes → AllByRecursion (ExportHolds totals 0) (memory_exports size code vector blank xs))
          → code + 8 * (if b then routines xs + 1 else routines xs) ≤ code_bytes → vector + 8 * (if a then vectors xs + 1 else vectors xs) ≤ data_bytes → blank + size * (if b then others xs else others xs + 1) ≤ data_bytes
          → AllByRecursion (ExportHolds totals 0) (if a then export_in s 1 vector ∷ memory_exports size (code + 8) (vector + 8) blank xs else if b then export_in s 0 code ∷ memory_exports size (code + 8) vector blank xs else export_in s 1 blank ∷ memory_exports size code vector (blank + size) xs)
      by true true both more c v z = (at-data s vector (spelled-name s parts.0) (omega (arith, v)), more (code + 8) (vector + 8) blank (omega (arith, c)) (omega (arith, v)) z)
      by true false both more c v z = (let clash = both refl in absurd (cc))
      by false true both more c v z = (at-code s code (spelled-name s parts.0) (omega (arith, c)), more (code + 8) vector blank (omega (arith, c)) v z)
      by false false both more c v z =
          let sum : blank + size + size * others xs ≡ blank + size * (others xs + 1) = omega arith in
          (at-data s blank (spelled-name s parts.0) (omega (arith, z, sum)), more code vector (blank + size) c v (omega (arith, z, sum)))

-- the names are those of the symbols

by-class : {A : Type 0} (a b : Bool) (x y z : A) (P : A → Type 0) → P x → P y → P z → P (if a then x else if b then y else z)
by-class true b x y z P first second third = first
by-class false true x y z P first second third = second
by-class false false x y z P first second third = third

names-same : (size code vector blank : ℕ) (xs : List Symbol) → map (λ (e : Export). e.name) (memory_exports size code vector blank xs) ≡ map (λ (s : Symbol). s.name) xs
names-same size code vector blank [] = refl
names-same size code vector blank (s ∷ xs) =
    by-class (is_vector s) (is_routine s) (export_in s 1 vector ∷ memory_exports size (code + 8) (vector + 8) blank xs) (export_in s 0 code ∷ memory_exports size (code + 8) vector blank xs) (export_in s 1 blank ∷ memory_exports size code vector (blank + size) xs)
    (λ es. map (λ (e : Export). e.name) es ≡ s.name ∷ map (λ (s : Symbol). s.name) xs)
    (ap (λ names. s.name ∷ names) (names-same size (code + 8) (vector + 8) blank xs))
    (ap (λ names. s.name ∷ names) (names-same size (code + 8) vector blank xs))
    (ap (λ names. s.name ∷ names) (names-same size code vector (blank + size) xs))

none-after : (name : List ℕ) (xs : List Symbol) → are_named xs name ≡ false → AllByRecursion (λ other. bytes_eq name other ≡ false) (map (λ (s : Symbol). s.name) xs)
none-after name [] none = tt
none-after name (s ∷ xs) none = let parts = apart-false (bytes_eq name s.name) (are_named xs name) none in (parts.0, none-after name xs parts.1)

names-distinct : (xs : List Symbol) → HaveOwnNames xs → IsDistinct bytes_eq (map (λ (s : Symbol). s.name) xs)
unfolding IsDistinct
names-distinct [] own = tt
names-distinct (s ∷ xs) own = (none-after s.name xs own.0, names-distinct xs own.1)

none-distinct : IsDistinct bytes_eq []
unfolding IsDistinct
none-distinct = tt

two-distinct : (one two : List ℕ) → bytes_eq one two ≡ false → IsDistinct bytes_eq (one ∷ two ∷ [])
unfolding IsDistinct
two-distinct one two apart = ((apart, tt), (tt, tt))

bytes-same : (xs : List Symbol) → bytes_of_names (map (λ (s : Symbol). s.name) xs) ≡ sum_by (λ (s : Symbol). length s.name + 1) xs
bytes-same [] = refl
bytes-same (s ∷ xs) =
    sum_by-cons (λ (name : List ℕ). length name + 1) s.name (map (λ (s : Symbol). s.name) xs)
    ∙ ap (λ n. length s.name + 1 + n) (bytes-same xs)
    ∙ sym (sum_by-cons (λ (s : Symbol). length s.name + 1) s xs)

length-memory_exports : (size code vector blank : ℕ) (xs : List Symbol) → length (memory_exports size code vector blank xs) ≡ length xs
length-memory_exports size code vector blank xs =
    sym (length-map (memory_exports size code vector blank xs) (λ (e : Export). e.name)) ∙ ap length (names-same size code vector blank xs) ∙ length-map xs (λ (s : Symbol). s.name)

-- what the tests say
pub record Fits (size : ℕ) (xs : List Symbol) : Type 0 where
  pub few : length xs < 2 ^ 14
  pub spelled : list_any is_unspellable xs ≡ false
  pub names : sum_by (λ (s : Symbol). length s.name + 1) xs ≤ 2 ^ 23
  pub total : data_total size xs ≤ 2 ^ 24

pub tests-unmet : (size : ℕ) (xs : List Symbol) → first_met (memory_tests size xs) ≡ None → Fits size xs
unfolding memory_tests
tests-unmet size xs none =
    let count = first_unmet (nat_le (2 ^ 14) (length xs)) fault.TooManySymbols _ none in
    let spelled = first_unmet (list_any is_unspellable xs) fault.UnspellableName _ count.1 in
    let names = first_unmet (nat_lt (2 ^ 23) (sum_by (λ (s : Symbol). length s.name + 1) xs)) fault.TooManyNameBytes _ spelled.1 in
    let total = first_unmet (nat_lt (2 ^ 24) (data_total size xs)) fault.TooManyBytes _ names.1 in
    record {
      few = leb-false (2 ^ 14) (length xs) count.0;
      spelled = spelled.0;
      names = ltb-false (2 ^ 23) _ names.0;
      total = ltb-false (2 ^ 24) (data_total size xs) total.0;
    }

-- the zeros begin after the vectors
zeros-after : (xs : List Symbol) → 8 * vectors xs ≤ zeros_from xs
zeros-after xs = omega arith

-- so it is a script
pub memory-holds : (v : Versions) (word size : ℕ) (xs : List Symbol) → VersionsHold v → HaveOwnNames xs → Fits size xs → ScriptHolds (memory_script v word size xs)
unfolding memory_script
memory-holds v word size xs holds own fits =
    let total = data_total size xs in
    let exports = memory_exports size 0 0 (zeros_from xs) xs in
    let names = names-same size 0 0 (zeros_from xs) xs in
    let vectors_inside : 8 * vectors xs ≤ total = omega (arith, zeros-after xs) in
    record {
      versions = holds;
      libraries = record { count = omega arith; each = tt; apart = none-distinct };
      imports = record { count = omega arith; each = tt; apart = none-distinct; grouped = tt };
      sections = record {
        count = omega arith;
        each = (code, (data_holds, tt));
        apart = two-distinct (99 ∷ []) (100 ∷ []) refl;
      };
      exports = record {
        count = omega (arith, length-memory_exports size 0 0 (zeros_from xs) xs, fits.few);
        each = each-export size (8 * routines xs) total 0 0 (zeros_from xs) xs fits.spelled (omega arith) (omega (arith, vectors_inside)) (omega arith);
        apart = subst (IsDistinct bytes_eq) (sym names) (names-distinct xs own);
      };
      main = tt;
      init = tt;
      term = tt;
      names = omega (arith, ap bytes_of_names names, bytes-same xs, fits.names);
    }
  where
    code : SectionHolds 2 0 (code_section word xs)
    code = record {
      name = record { least = omega arith; most = omega arith; bytes = refl };
      kind = refl;
      share = refl;
      align = omega arith;
      total = omega (arith, routines-few xs, fits.few);
      image = omega (arith, length-code word xs);
      fixups = no_fixups_fit;
      inside = omega arith;
      bases = tt;
    }

    data_holds : SectionHolds 2 0 (data_section size xs)
    data_holds = record {
      name = record { least = omega arith; most = omega arith; bytes = refl };
      kind = refl;
      share = refl;
      align = omega arith;
      total = omega (arith, fits.total);
      image = omega (arith, length-vector_image 0 xs, zeros-after xs);
      fixups = fixups-good xs fits.few;
      inside = omega (arith, fixups-end 0 xs, zeros-after xs);
      bases = fixups-there 0 xs;
    }
