-- The bytes written for tables are read as a loader section with these tables: no entry is refused, and
-- each is read back.
use Rattle.std.proofs.Common.{◌≡◌, ◌∙◌, ℕ, suc, ◌+◌, ◌*◌, ◌/◌, ◌%◌, ◌^◌, ◌==◌, ◌<◌, ◌≤◌, Bool, true, false, cond, inl, inr, List, [], ◌∷◌, Option, None, Some, length, drop, get_or, eq-eqb, refl, sym, subst, arith}
use Rattle.std.specs.Prelude.{FitsSigned, IfSome, Ok, slice_get}
use Rattle.std.specs.Int.{w16, w32, cast_signed, cast_unsigned}
use Rattle.std.specs.List.{position, position_from}
use Rattle.std.specs.Option.{option_map, option_or}
use Rattle.std.proofs.Math.Bool.{or-true}
use Rattle.std.proofs.lemmas.Bool.{le-leb, le-ltb, lt-leb, lt-ltb, ne_eqb}
use Rattle.std.proofs.lemmas.Int.{to_z-of_z, to_z_pos}
use Rattle.std.proofs.lemmas.Iterator.Adapters.{position_from-zero}
use Rattle.std.proofs.lemmas.Option.{get_or_from_slice_get, slice_get_cases, slice_get_within}
use Rattle.pef_words.specs.Bytes.{name_at}
use Rattle.pef_words.specs.Refusals.{first_among}
use Rattle.pef_hash.specs.Exports.{entry_at, entry_of, key_of, name_of, slot_word_of}
use Rattle.pef_format.specs.Exports.{Export}
use Rattle.pef_format.specs.Symbols.{Import}
use Rattle.pef_loader.specs.Export.{export_in, export_refusal, export_table, export_tests, has_exports, has_section}
use Rattle.pef_loader.specs.Header.{entry_of as header_entry, header_of, is_entry, tables_end}
use Rattle.pef_loader.specs.Import.{import_at, import_in, import_refusal, import_tests, owner_at, owner_of}
use Rattle.pef_loader.specs.Library.{Library, library_at, library_in, library_refusal, library_tests}
use Rattle.pef_loader.specs.Loader.{entry_tests, export_of, import_of, init_of, library_of, loaded_of, main_of, reloc_of, term_of}
use Rattle.pef_loader.specs.Reloc.{instructions_of, reloc_at, reloc_in, reloc_refusal, reloc_tests}
use Rattle.pef_loader.proofs.Laws.{accepts}
use Rattle.pef_write.specs.declared.field.Field.TheVariants.{Word}
use Rattle.pef_write.specs.Fields.{spelled}
use Rattle.pef_write.specs.Loaders.{LoaderTables, ProgramEntry, class_byte, entry_offset, entry_section, export_entry, header_fields, import_entry, library_entry, programs_from, relocation_entry, strings_from, strings_of, table_fields, written_loader}
use Rattle.pef_write.specs.ReadBack.{program_read}
use Rattle.pef_write.specs.Kept.Fits.{Reads}
use Rattle.pef_write.specs.Kept.Tables.{AreTables, HasNoZero, has_import, header_read, loaded_tables, section_read}
use Rattle.pef_write.proofs.Fields.{reads-at}
use Rattle.pef_write.proofs.Loaders.{length-table_fields, length-written_loader}
use Rattle.pef_write.proofs.Listing.{zip-at, zip-length}
use Rattle.pef_write.proofs.Standing.{import_name, library_name, name-stands, part-stands, stands-dropped, stands-in, stands-inside}
use Rattle.pef_write.proofs.TablesStand.{export-name-stands, export_name_at, export_reads, import-name-stands, import_name_at, import_reads, key_reads, library-name-stands, library_name_at, library_reads, loader_header_reads, program-stands, program_at, relocation_reads, slot_reads, strings-stand, table-after}

-- the same choice before equal others
same_choice : (b : Bool) (x : ℕ) (others others' : Option ℕ) → others ≡ others' → option_or (cond b (Some x) None) others ≡ cond b (Some x) others'
same_choice true x others others' same = refl
same_choice false x others others' same = same

-- if each place has its number as the answer exactly if its entry passes, the first answer is the first
-- number
first-from : {X : Type 0} (answer : ℕ → Option ℕ) (test : X → Bool) (at : ℕ) (xs : List X) → ((i : ℕ) (x : X) → slice_get xs i ≡ Some x → answer (at + i) ≡ cond (test x) (Some (at + i)) None)
    → first_among answer at (length xs) ≡ position_from test at xs
first-from answer test at [] each = refl
first-from {X} answer test at (x ∷ xs) each =
    let e : at + 0 ≡ at = omega arith in
    let P : ℕ → Type 0 = λ k. answer k ≡ cond (test x) (Some k) None in
    let here : answer at ≡ cond (test x) (Some at) None = subst P e (each 0 x refl) in
    let later = first-from answer test (at + 1) xs (λ i y there. (
    let f : at + suc i ≡ at + 1 + i = omega arith in
    let Q : ℕ → Type 0 = λ k. answer k ≡ cond (test y) (Some k) None in
    subst Q f (each (suc i) y there))) in
    rw here (same_choice (test x) at _ _ later)

first-place : {X : Type 0} (answer : ℕ → Option ℕ) (test : X → Bool) (xs : List X) → ((i : ℕ) (x : X) → slice_get xs i ≡ Some x → answer i ≡ cond (test x) (Some i) None) → first_among answer 0 (length xs) ≡ position test xs
first-place {X} answer test xs each =
    first-from answer test 0 xs (λ i x there. (
    let e : i ≡ 0 + i = omega arith in
    let P : ℕ → Type 0 = λ k. answer k ≡ cond (test x) (Some k) None in
    subst P e (each i x there)))
    ∙ sym (position_from-zero test xs)

-- a fact of all is one of each
all-at : {X : Type 0} (P : X → Type 0) (xs : List X) (i : ℕ) (x : X) → ((k : ℕ) (d : X) → k < length xs → P (get_or xs k d)) → slice_get xs i ≡ Some x → P x
all-at P xs i x each there = subst P (get_or_from_slice_get xs i x x there) (each i x (slice_get_within xs i x there))

-- a library's fields in their place
library-if : (bytes : List ℕ) (i at : ℕ) (l : Library) → Reads bytes (56 + 24 * i) 0 (library_entry at l) → library_at bytes i ≡ Some (record { fields = l.fields; name = at })
unfolding library_at
library-if bytes i at l r0 =
    let here : 56 + 24 * i + 0 ≡ 56 + 24 * i = omega arith in
    let first = rw here at r0.0 in
    let r1 = r0.1 in
    let r2 = r1.1 in
    let r3 = r2.1 in
    let r4 = r3.1 in
    let r5 = r4.1 in
    rw (first, r1.0, r2.0, r3.0, r4.0, r5.0) refl

-- a word of a class byte and an offset of 24 bits
word-class : (weak : Bool) (class at : ℕ) → class < 16 → at < 2 ^ 24 → (class_byte weak class * 2 ^ 24 + at) / 2 ^ 24 % 16 ≡ class
word-class true class at small low = omega arith
word-class false class at small low = omega arith

word-weak : (weak : Bool) (class at : ℕ) → class < 16 → at < 2 ^ 24 → ((class_byte weak class * 2 ^ 24 + at) / 2 ^ 31 == 1) ≡ weak
word-weak true class at small low = eq-eqb (((class + 0x80) * 2 ^ 24 + at) / 2 ^ 31) 1 (omega arith)
word-weak false class at small low = ne_eqb ((class * 2 ^ 24 + at) / 2 ^ 31) 1 (λ is. absurd (omega (arith, is)))

word-offset : (byte at : ℕ) → at < 2 ^ 24 → (byte * 2 ^ 24 + at) % 2 ^ 24 ≡ at
word-offset byte at low = omega arith

import-if : (t : LoaderTables) (bytes : List ℕ) (j at : ℕ) (i : Import) → i.fields.class < 16 → at < 2 ^ 24 → Reads bytes (56 + 24 * length t.libraries + 4 * j) 0 (import_entry at i)
    → import_at bytes (header_read t) j ≡ Some (record { fields = i.fields; name = at })
unfolding import_at
import-if t bytes j at i class small r =
    let here : 56 + 24 * length t.libraries + 4 * j + 0 ≡ 56 + 24 * length t.libraries + 4 * j = omega arith in
    let first = rw here at r.0 in
    rw (first, word-class i.fields.weak i.fields.class at class small, word-weak i.fields.weak i.fields.class at class small, word-offset (class_byte i.fields.weak i.fields.class) at small) refl

export-if : (bytes : List ℕ) (from at : ℕ) (e : Export) → e.fields.class < 16 → at < 2 ^ 24 → cast_signed w16 (cast_unsigned w16 e.fields.section) ≡ e.fields.section → Reads bytes from 0 (export_entry at e)
    → entry_at bytes from ≡ Some (record { fields = e.fields; name = at })
unfolding entry_at
export-if bytes from at e class small section r0 =
    let here : from + 0 ≡ from = omega arith in
    let first = rw here at r0.0 in
    rw (first, r0.1.0, r0.1.1.0, word-class false e.fields.class at class small, word-offset e.fields.class at small, section) refl

reloc-if : (t : LoaderTables) (bytes : List ℕ) (i at : ℕ) (p : ProgramEntry) → Reads bytes (56 + 24 * length t.libraries + 4 * length t.imports + 12 * i) 0 (relocation_entry at p)
    → reloc_at bytes (header_read t) i ≡ Some (record { section = p.section; count = length p.bytes / 2; first = at })
unfolding reloc_at
reloc-if t bytes i at p r =
    let from : ℕ = 56 + 24 * length t.libraries + 4 * length t.imports + 12 * i in
    let here : from + 0 ≡ from = omega arith in
    let first = rw here at r.0 in
    rw (first, r.1.1.0, r.1.1.1.0) refl

module _ (sections : ℕ) (t : LoaderTables) (a : AreTables sections t) where
  -- library i is read, and so is its name
  library_there : (i : ℕ) (l : Library) → slice_get t.libraries i ≡ Some l → library_at (written_loader t) i ≡ Some (record { fields = l.fields; name = library_name_at t i })
  library_there i l there =
      let e : 0 + library_name_at t i ≡ library_name_at t i = omega arith in
      let P : ℕ → Type 0 = λ at. Reads (written_loader t) (56 + 24 * i) 0 (library_entry at l) in
      library-if (written_loader t) i (library_name_at t i) l (subst P e (library_reads t a.fit i l there))

  library_named : (i : ℕ) (l : Library) → slice_get t.libraries i ≡ Some l → name_at (written_loader t) (strings_from t + library_name_at t i) ≡ Some l.name
  library_named i l there =
      name-stands (written_loader t) l.name (strings_from t + library_name_at t i) (stands-in (written_loader t) (strings_of t) (library_name l) (strings_from t) (library_name_at t i) (strings-stand t) (library-name-stands t i l there))
      (all-at (λ l. HasNoZero l.name) t.libraries i l a.library_names there)

  library_accepted : (i : ℕ) (l : Library) → slice_get t.libraries i ≡ Some l → library_refusal (written_loader t) (header_read t) i ≡ None
  unfolding library_tests
  library_accepted i l there =
      let range = all-at (λ l. l.fields.first + l.fields.count ≤ length t.imports) t.libraries i l a.ranges there in
      rw (library_there i l there, library_named i l there, le-ltb (length t.imports) (l.fields.first + l.fields.count) range) refl

  -- import j is read, and so are its name and its first library
  import_there : (j : ℕ) (i : Import) → slice_get t.imports j ≡ Some i → import_at (written_loader t) (header_read t) j ≡ Some (record { fields = i.fields; name = import_name_at t j })
  import_there j i there =
      let strings = a.fit.strings in
      let inside = stands-inside (strings_of t) (import_name i) (import_name_at t j) (import-name-stands t j i there) in
      let class = all-at (λ (i : Import). i.fields.class < 16) t.imports j i a.fit.imports there in
      import-if t (written_loader t) j (import_name_at t j) i class (omega arith) (import_reads t a.fit j i there)

  import_named : (j : ℕ) (i : Import) → slice_get t.imports j ≡ Some i → name_at (written_loader t) (strings_from t + import_name_at t j) ≡ Some i.name
  import_named j i there =
      name-stands (written_loader t) i.name (strings_from t + import_name_at t j) (stands-in (written_loader t) (strings_of t) (import_name i) (strings_from t) (import_name_at t j) (strings-stand t) (import-name-stands t j i there))
      (all-at (λ i. HasNoZero i.name) t.imports j i a.import_names there)

  import_owner : (j : ℕ) (i : Import) → slice_get t.imports j ≡ Some i → owner_of (written_loader t) (header_read t) j ≡ Some i.library
  import_owner j i there = first-place (owner_at (written_loader t) j) (has_import j) t.libraries (λ i l there. rw (library_there i l there) refl) ∙ a.owned j i there

  import_accepted : (j : ℕ) (i : Import) → slice_get t.imports j ≡ Some i → import_refusal (written_loader t) (header_read t) j ≡ None
  unfolding import_tests
  import_accepted j i there = rw (import_there j i there, import_named j i there, import_owner j i there) refl

  -- relocation header i is read, and so is its program
  reloc_there : (i : ℕ) (p : ProgramEntry) → slice_get t.programs i ≡ Some p → reloc_at (written_loader t) (header_read t) i ≡ Some (record { section = p.section; count = length p.bytes / 2; first = program_at t i })
  reloc_there i p there =
      let e : 0 + program_at t i ≡ program_at t i = omega arith in
      let P : ℕ → Type 0 = λ at. Reads (written_loader t) (56 + 24 * length t.libraries + 4 * length t.imports + 12 * i) 0 (relocation_entry at p) in
      reloc-if t (written_loader t) i (program_at t i) p (subst P e (relocation_reads t a.fit i p there))

  whole_program : (i : ℕ) (p : ProgramEntry) → slice_get t.programs i ≡ Some p → 2 * (length p.bytes / 2) ≡ length p.bytes
  whole_program i p there =
      let even = (all-at (λ p. p.section < sections × (length p.bytes % 2 ≡ 0)) t.programs i p (λ k d under. (a.programs k d under, (a.fit.programs k d under).even)) there).1 in
      omega arith

  program_accepted : (i : ℕ) (p : ProgramEntry) → slice_get t.programs i ≡ Some p → reloc_refusal (written_loader t) (header_read t) sections i ≡ None
  unfolding reloc_tests
  program_accepted i p there =
      let under = all-at (λ p. p.section < sections) t.programs i p a.programs there in
      let inside = stands-inside (written_loader t) p.bytes (programs_from t + program_at t i) (program-stands t i p there) in
      let whole = whole_program i p there in
      rw (reloc_there i p there, lt-leb sections p.section under, le-ltb (length (written_loader t)) (programs_from t + program_at t i + 2 * (length p.bytes / 2)) (omega arith)) refl

  -- slot s, and key k and export k with its name
  pub slot_there : (s slot : ℕ) → slice_get t.slots s ≡ Some slot → slot_word_of (export_table (written_loader t) (header_read t)) s ≡ Some slot
  unfolding slot_word_of
  slot_there s slot there =
      let r = slot_reads t a.fit s slot there in
      let here : 0 + 4 * s + 0 ≡ 4 * s = omega arith in
      let number = rw here at r.0 in
      let under = slice_get_within t.slots s slot there in
      let slots = a.slots in
      rw (lt-ltb s (2 ^ t.power) (omega arith), table-after t, number) refl

  pub key_there : (k : ℕ) (e : Export) (key : ℕ) → slice_get t.exports k ≡ Some e → slice_get t.keys k ≡ Some key → key_of (export_table (written_loader t) (header_read t)) k ≡ Some key
  unfolding key_of
  key_there k e key there keyed =
      let slots = a.slots in
      let r = reads-at (spelled (table_fields t)) (4 * length t.slots + 4 * k) 0 (4 * 2 ^ t.power + 4 * k) 0 (Word key ∷ []) (omega arith) (key_reads t a.fit k key keyed) in
      let here : 4 * 2 ^ t.power + 4 * k + 0 ≡ 4 * 2 ^ t.power + 4 * k = omega arith in
      let number = rw here at r.0 in
      rw (lt-ltb k (length t.exports) (slice_get_within t.exports k e there), table-after t, number) refl

  export_there : (k : ℕ) (e : Export) → slice_get t.exports k ≡ Some e
      → entry_of (export_table (written_loader t) (header_read t)) k ≡ Some (record { fields = e.fields; name = export_name_at t k })
  unfolding entry_of
  export_there k e there =
      let slots = a.slots in
      let keys = zip-length (λ key e. key / 2 ^ 16 ≡ length e.name) t.keys t.exports a.keys in
      let strings = a.fit.strings in
      let inside = stands-inside (strings_of t) e.name (export_name_at t k) (export-name-stands t k e there) in
      let class = all-at (λ (e : Export). e.fields.class < 16) t.exports k e (λ k d under. (a.fit.exports k d under).class) there in
      let section = to_z-of_z w16 e.fields.section (all-at (λ (e : Export). FitsSigned w16 e.fields.section) t.exports k e (λ k d under. (a.fit.exports k d under).section) there) in
      let r = reads-at (spelled (table_fields t)) (4 * length t.slots + 4 * length t.keys + 10 * k) 0 (4 * 2 ^ t.power + 4 * length t.exports + 10 * k) 0 (export_entry (export_name_at t k) e) (omega arith) (export_reads t a.fit k e there) in
      let entry = export-if (spelled (table_fields t)) (4 * 2 ^ t.power + 4 * length t.exports + 10 * k) (export_name_at t k) e class (omega arith) section r in
      rw (lt-ltb k (length t.exports) (slice_get_within t.exports k e there), table-after t, entry) refl

  pub export_named : (k : ℕ) (e : Export) → slice_get t.exports k ≡ Some e → name_of (export_table (written_loader t) (header_read t)) k ≡ Some e.name
  unfolding name_of
  export_named k e there =
      let keyed = zip-at (λ key e. key / 2 ^ 16 ≡ length e.name) t.keys t.exports k e a.keys there in
      let strings = drop (strings_from t) (written_loader t) in
      let front = stands-dropped (written_loader t) (strings_of t) (strings_from t) (strings-stand t) in
      let name = part-stands strings e.name (0 + export_name_at t k) (stands-in strings (strings_of t) e.name 0 (export_name_at t k) front (export-name-stands t k e there)) in
      let here : 0 + export_name_at t k ≡ export_name_at t k = omega arith in
      rw (key_there k e keyed.0 there keyed.1, export_there k e there, keyed.2, rw here at name) refl

  export_accepted : (k : ℕ) (e : Export) → slice_get t.exports k ≡ Some e → export_refusal (written_loader t) (header_read t) sections k ≡ None
  unfolding export_tests
  export_accepted k e there =
      let section = all-at (λ (e : Export). has_section (header_read t) sections e.fields.value e.fields.section ≡ true) t.exports k e a.exports there in
      let inside = stands-inside (written_loader t) (strings_of t) (strings_from t) (strings-stand t) in
      rw (export_there k e there, le-ltb (length (written_loader t)) (strings_from t) (omega arith), export_named k e there, section) refl

  -- the export table is whole
  table_whole : has_exports (written_loader t) (header_read t) ≡ true
  table_whole =
      let slots = a.slots in
      let keys = zip-length (λ key e. key / 2 ^ 16 ≡ length e.name) t.keys t.exports a.keys in
      let len = length-table_fields t in
      let inside = le-leb (4 * 2 ^ t.power + 14 * length t.exports) (length (spelled (table_fields t))) (omega arith) in
      rw (table-after t, le-leb t.power 30 a.power, inside) (or-true (length t.exports == 0))

-- an entry's section is read with its sign
section-signed : (sections : ℕ) (entry : Option (ℕ × ℕ)) → sections < 2 ^ 15 → IfSome entry (λ e. e.0 < sections) → cast_signed w32 (entry_section entry) ≡ section_read entry
section-signed sections None few under = refl
section-signed sections (Some e) few under = to_z_pos w32 e.0 (omega (arith, under))

entry-inside : (sections : ℕ) (entry : Option (ℕ × ℕ)) → IfSome entry (λ e. e.0 < sections) → is_entry sections (section_read entry) ≡ true
entry-inside sections None under = refl
entry-inside sections (Some e) under = lt-ltb e.0 sections under

-- the header's fields are those of the tables
header_there : (sections : ℕ) (t : LoaderTables) (bytes : List ℕ) → AreTables sections t → Reads bytes 0 0 (header_fields t) → header_of bytes ≡ Some (header_read t)
unfolding header_of header_fields
header_there sections t bytes a r0 =
    let r1 = r0.1 in
    let r2 = r1.1 in
    let r3 = r2.1 in
    let r4 = r3.1 in
    let r5 = r4.1 in
    let r6 = r5.1 in
    let r7 = r6.1 in
    let r8 = r7.1 in
    let r9 = r8.1 in
    let r10 = r9.1 in
    let r11 = r10.1 in
    let r12 = r11.1 in
    let r13 = r12.1 in
    let main = section-signed sections t.main a.few a.main in
    let init = section-signed sections t.init a.few a.init in
    let term = section-signed sections t.term a.few a.term in
    rw (r0.0, r1.0, r2.0, r3.0, r4.0, r5.0, r6.0, r7.0, r8.0, r9.0, r10.0, r11.0, r12.0, r13.0, main, init, term) refl

-- if no entry of a list is refused, there is no first refusal
none_refused : {X F : Type 0} (refusal : ℕ → Option F) (from : ℕ) (xs : List X) → ((i : ℕ) (x : X) → slice_get xs i ≡ Some x → refusal (from + i) ≡ None) → first_among refusal from (length xs) ≡ None
none_refused refusal from [] each = refl
none_refused {F = F} refusal from (x ∷ xs) each =
    let e : from + 0 ≡ from = omega arith in
    let P : ℕ → Type 0 = λ k. refusal k ≡ None in
    let here = subst P e (each 0 x refl) in
    let later = none_refused refusal (from + 1) xs (λ i y there. (
    let f : from + suc i ≡ from + 1 + i = omega arith in
    subst P f (each (suc i) y there))) in
    rw (here, later) refl

-- .. counted from the first
none_of : {X F : Type 0} (refusal : ℕ → Option F) (xs : List X) → ((i : ℕ) (x : X) → slice_get xs i ≡ Some x → refusal i ≡ None) → first_among refusal 0 (length xs) ≡ None
none_of refusal xs each = none_refused refusal 0 xs (λ i x there. (
    let e : 0 + i ≡ i = omega arith in
    rw e (each i x there)))

-- the tables are no longer than all bytes
tables_inside : (t : LoaderTables) → tables_end (header_read t) ≤ length (written_loader t)
tables_inside t =
    let whole = length-written_loader t in
    omega arith

-- the bytes written are a loader section with these tables
pub tables_loaded : (sections : ℕ) (t : LoaderTables) → AreTables sections t → loaded_of sections (written_loader t) ≡ Ok (loaded_tables sections t)
unfolding entry_tests
tables_loaded sections t a = accepts (loaded_tables sections t) (record {
  header = header_there sections t (written_loader t) a (loader_header_reads t a.fit);
  tables = rw (le-ltb (length (written_loader t)) (tables_end (header_read t)) (tables_inside t)) refl;
  libraries = none_of (library_refusal (written_loader t) (header_read t)) t.libraries (library_accepted sections t a);
  imports = none_of (import_refusal (written_loader t) (header_read t)) t.imports (import_accepted sections t a);
  entries = rw (entry-inside sections t.main a.main, entry-inside sections t.init a.init, entry-inside sections t.term a.term) refl;
  relocs = none_of (reloc_refusal (written_loader t) (header_read t) sections) t.programs (program_accepted sections t a);
  table = rw (table_whole sections t a) refl;
  exports = none_of (export_refusal (written_loader t) (header_read t) sections) t.exports (export_accepted sections t a);
})

-- the value read at a place of a list: that of its element, or none past the end
read-each : {X Y : Type 0} (result : Option X → Y) (part : Y) (xs : List X) (i : ℕ) → ((x : X) → slice_get xs i ≡ Some x → part ≡ result (Some x)) → (length xs ≤ i → part ≡ result None) → part ≡ result (slice_get xs i)
read-each result part xs i there past =
    elim (slice_get_cases xs i).1 [
      | inl here ↦ rw here.2 (there here.0 here.2)
      | inr behind ↦ rw behind.1 (past behind.0)
    ]

-- an entry that exists is read with its section and offset
entry-read : (entry : Option (ℕ × ℕ)) → header_entry (section_read entry) (entry_offset entry) ≡ entry
entry-read None = refl
entry-read (Some entry) = refl

pub main_back : (sections : ℕ) (t : LoaderTables) → main_of (loaded_tables sections t) ≡ t.main
main_back sections t = entry-read t.main

pub init_back : (sections : ℕ) (t : LoaderTables) → init_of (loaded_tables sections t) ≡ t.init
init_back sections t = entry-read t.init

pub term_back : (sections : ℕ) (t : LoaderTables) → term_of (loaded_tables sections t) ≡ t.term
term_back sections t = entry-read t.term

pub relocs_back : (sections : ℕ) (t : LoaderTables) → AreTables sections t → (i : ℕ) → reloc_of (loaded_tables sections t) i ≡ option_map program_read (slice_get t.programs i)
unfolding reloc_of reloc_in instructions_of
relocs_back sections t a i = read-each (option_map program_read) (reloc_of (loaded_tables sections t) i) t.programs i
    (λ p there. (
    let part = part-stands (written_loader t) p.bytes (programs_from t + program_at t i) (program-stands t i p there) in
    rw (lt-ltb i (length t.programs) (slice_get_within t.programs i p there), reloc_there sections t a i p there, whole_program sections t a i p there, part) refl))
    (λ past. rw (le-ltb i (length t.programs) past) refl)

pub libraries_back : (sections : ℕ) (t : LoaderTables) → AreTables sections t → (i : ℕ) → library_of (loaded_tables sections t) i ≡ slice_get t.libraries i
unfolding library_of library_in
libraries_back sections t a i = read-each (λ o. o) (library_of (loaded_tables sections t) i) t.libraries i
    (λ l there. rw (lt-ltb i (length t.libraries) (slice_get_within t.libraries i l there), library_there sections t a i l there, library_named sections t a i l there) refl)
    (λ past. rw (le-ltb i (length t.libraries) past) refl)

pub imports_back : (sections : ℕ) (t : LoaderTables) → AreTables sections t → (j : ℕ) → import_of (loaded_tables sections t) j ≡ slice_get t.imports j
unfolding import_of import_in
imports_back sections t a j = read-each (λ o. o) (import_of (loaded_tables sections t) j) t.imports j
    (λ i there. rw (lt-ltb j (length t.imports) (slice_get_within t.imports j i there), import_there sections t a j i there, import_named sections t a j i there, import_owner sections t a j i there) refl)
    (λ past. rw (le-ltb j (length t.imports) past) refl)

pub exports_back : (sections : ℕ) (t : LoaderTables) → AreTables sections t → (k : ℕ) → export_of (loaded_tables sections t) k ≡ slice_get t.exports k
unfolding export_of export_in entry_of
exports_back sections t a k = read-each (λ o. o) (export_of (loaded_tables sections t) k) t.exports k
    (λ e there. rw (export_there sections t a k e there, export_named sections t a k e there) refl)
    (λ past. rw (le-ltb k (length t.exports) past) refl)
