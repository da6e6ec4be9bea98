-- A loader section is refused at the place of what is refused.
use Rattle.std.proofs.Common.{◌≡◌, ◌∙◌, ℕ, ◌+◌, ◌-◌, ◌*◌, ◌%◌, ◌^◌, ◌<◌, ◌≤◌, Bool, false, true, cond, not, List, Option, None, Some, Ok, Err, Result, drop, refl, sym, ap, subst, arith, length, inl, inr}
use Rattle.std.specs.Prelude.{◌||◌, ◌&&◌, ℤ, nat_le, nat_lt}
use Rattle.std.specs.Int.{Width, cast_signed, w16, w32}
use Rattle.std.specs.Option.{is_none, option_map, option_map_or}
use Rattle.std.proofs.lemmas.Bool.{le-leb, leb-true, lt-ltb, ltb-false, ltb-true}
use Rattle.std.proofs.lemmas.Bool.Decides.{eqb_tells}
use Rattle.std.proofs.lemmas.List.{drop-drop, length-drop}
use Rattle.std.proofs.lemmas.Option.{same_Some}
use Rattle.pef_format.specs.Places.{field_from}
use Rattle.pef_words.specs.Bytes.{name_at, number_at, signed_at}
use Rattle.pef_words.specs.Refusals.{◌>>=◌, first_among, first_met, unless}
use Rattle.pef_words.proofs.Laws.Refusals.{some_among}
use Rattle.pef_hash.specs.Exports.{Entry, ExportTable, entry_at, entry_of, export_place, has_table, name_of}
use Rattle.pef_hash.specs.Limits.{most_power}
use Rattle.pef_loader.specs.Export.{export_refusal, export_table, export_tests, has_exports, has_section}
use Rattle.pef_loader.specs.Header.{header_of, import_place, imports_from, is_entry, library_place, reloc_place, relocs_from, tables_end}
use Rattle.pef_loader.specs.Import.{ImportEntry, import_at, import_refusal, import_tests, owner_of}
use Rattle.pef_loader.specs.Library.{LibraryEntry, library_at, library_refusal, library_tests}
use Rattle.pef_loader.specs.Loader.{Loaded, entry_tests, fault_if, judged, loaded_of}
use Rattle.pef_loader.specs.Places.{export_start, start_in}
use Rattle.pef_loader.specs.Refused.{IsPlaced, RefusalsHavePlaces}
use Rattle.pef_loader.specs.Reloc.{reloc_at, reloc_refusal, reloc_tests}
use Rattle.pef_loader.specs.declared.header.EntryKind.TheVariants.{Main, Init, Term}
use Rattle.pef_loader.specs.declared.header.LoaderHeader.{LoaderHeader}
use Rattle.pef_loader.specs.declared.reloc.RelocEntry.{RelocEntry}
use Rattle.pef_loader.specs.declared.fault.LoaderFault.{LoaderFault}
use Rattle.pef_loader.specs.declared.fault.LoaderFault.TheVariants.{LoaderShort, BadTableOffset, BadName, BadLibraryRange, OrphanImport, BadEntry, BadRelocSection, RelocOutside, BadExportTable, BadExportSection}
use Rattle.pef_loader.specs.declared.fault.NamedRow.TheVariants as row
use Rattle.pef_loader.proofs.FindingLemmas.{export_there, import_there, library_there, reloc_there}

-- what is there of a chain is there of its first part
bound : {A B : Type 0} (o : Option A) (f : A → Option B) (x : B) → (o >>= f) ≡ Some x → (a : A) × (o ≡ Some a) × (f a ≡ Some x)
bound None f x is = absurd (cc is)
bound (Some a) f x is = (a, refl, is)

-- a number read as two's complement is that of a number
signed : (w : Width) (n : ℕ) (bytes : List ℕ) (at : ℕ) (x : ℤ) → signed_at w n bytes at ≡ Some x → (v : ℕ) × (number_at n bytes at ≡ Some v) × (cast_signed w v ≡ x)
signed w n bytes at x is = by (number_at n bytes at) refl is
  where
    by : (o : Option ℕ) → number_at n bytes at ≡ o → option_map (cast_signed w) o ≡ Some x → (v : ℕ) × (number_at n bytes at ≡ Some v) × (cast_signed w v ≡ x)
    by None same is = absurd (cc is)
    by (Some v) same is = (v, same, same_Some (cast_signed w v) x is)

-- what is read only if a test holds
held : (x y : ℕ) (b : Bool) → cond b (Some y) None ≡ Some x → b ≡ true
held x y true is = refl
held x y false is = absurd (cc is)

-- .. is read if another one does
again : (x y : ℕ) (b c : Bool) → c ≡ true → cond b (Some y) None ≡ Some x → cond c (Some y) None ≡ Some x
again x y true true holds is = is
again x y false c holds is = absurd (cc is)
again x y true false holds is = absurd (cc holds)

-- a number that is there ends inside
number-inside : (n at : ℕ) (bytes : List ℕ) (x : ℕ) → number_at n bytes at ≡ Some x → at + n ≤ length bytes
unfolding number_at
number-inside n at bytes x is = leb-true (at + n) (length bytes) (held x _ (nat_le (at + n) (length bytes)) is)

-- a number after the first bytes is one of all
number-after : (n skipped at : ℕ) (bytes : List ℕ) (x : ℕ) → 0 < n → number_at n (drop skipped bytes) at ≡ Some x → number_at n bytes (skipped + at) ≡ Some x
unfolding number_at
number-after n skipped at bytes x some is =
    let inside = number-inside n at (drop skipped bytes) x is in
    let left = length-drop skipped bytes in
    let within : skipped + at + n ≤ length bytes = omega (arith, inside, left, some) in
    again x _ (nat_le (at + n) (length (drop skipped bytes))) (nat_le (skipped + at + n) (length bytes)) (le-leb (skipped + at + n) (length bytes) within) (rw (drop-drop at skipped bytes) at is)

-- so its place is that of its field
field-here : (n from field x : ℕ) (bytes : List ℕ) → length bytes < 2 ^ 64 → number_at n bytes (from + field) ≡ Some x → (field_from (Some from) field >>= number_at n bytes) ≡ Some x
field-here n from field x bytes fits is =
    let inside = number-inside n (from + field) bytes x is in
    let low : nat_lt (from + field) (2 ^ 64) ≡ true = le-low (from + field) (omega (arith, inside, fits)) in
    ap (λ b. cond b (Some (from + field)) None >>= number_at n bytes) low ∙ is
  where
    le-low : (m : ℕ) → m ≤ 2 ^ 64 - 1 → nat_lt m (2 ^ 64) ≡ true
    le-low m low = lt-ltb m (2 ^ 64) (omega (arith, low))

-- the fields of a header that an error is about
record HasHeader (bytes : List ℕ) (h : LoaderHeader) : Type 0 where
  pub main : signed_at w32 4 bytes 0 ≡ Some h.main_section
  pub init : signed_at w32 4 bytes 8 ≡ Some h.init_section
  pub term : signed_at w32 4 bytes 16 ≡ Some h.term_section
  pub libraries : number_at 4 bytes 24 ≡ Some h.library_count
  pub hash : number_at 4 bytes 44 ≡ Some h.export_hash_offset

header-fields : (bytes : List ℕ) (h : LoaderHeader) → header_of bytes ≡ Some h → HasHeader bytes h
unfolding header_of
header-fields bytes h is =
    let a = bound (signed_at w32 4 bytes 0) _ h is in
    let b = bound (number_at 4 bytes 4) _ h a.2 in
    let c = bound (signed_at w32 4 bytes 8) _ h b.2 in
    let d = bound (number_at 4 bytes 12) _ h c.2 in
    let e = bound (signed_at w32 4 bytes 16) _ h d.2 in
    let f = bound (number_at 4 bytes 20) _ h e.2 in
    let g = bound (number_at 4 bytes 24) _ h f.2 in
    let i = bound (number_at 4 bytes 28) _ h g.2 in
    let j = bound (number_at 4 bytes 32) _ h i.2 in
    let k = bound (number_at 4 bytes 36) _ h j.2 in
    let l = bound (number_at 4 bytes 40) _ h k.2 in
    let m = bound (number_at 4 bytes 44) _ h l.2 in
    let n = bound (number_at 4 bytes 48) _ h m.2 in
    let o = bound (number_at 4 bytes 52) _ h n.2 in
    let same = same_Some _ h o.2 in
    record {
      main = a.1 ∙ ap (λ (h : LoaderHeader). Some h.main_section) same;
      init = c.1 ∙ ap (λ (h : LoaderHeader). Some h.init_section) same;
      term = e.1 ∙ ap (λ (h : LoaderHeader). Some h.term_section) same;
      libraries = g.1 ∙ ap (λ (h : LoaderHeader). Some h.library_count) same;
      hash = m.1 ∙ ap (λ (h : LoaderHeader). Some h.export_hash_offset) same;
    }

-- .. of a library
record HasLibrary (bytes : List ℕ) (i : ℕ) (e : LibraryEntry) : Type 0 where
  pub name : number_at 4 bytes (library_place i) ≡ Some e.name
  pub first : number_at 4 bytes (library_place i + 16) ≡ Some e.fields.first

library-fields : (bytes : List ℕ) (i : ℕ) (x : LibraryEntry) → library_at bytes i ≡ Some x → HasLibrary bytes i x
unfolding library_at
library-fields bytes i x is =
    let a = bound (number_at 4 bytes (library_place i)) _ x is in
    let b = bound (number_at 4 bytes (library_place i + 4)) _ x a.2 in
    let c = bound (number_at 4 bytes (library_place i + 8)) _ x b.2 in
    let d = bound (number_at 4 bytes (library_place i + 12)) _ x c.2 in
    let e = bound (number_at 4 bytes (library_place i + 16)) _ x d.2 in
    let f = bound (number_at 1 bytes (library_place i + 20)) _ x e.2 in
    let same = same_Some _ x f.2 in
    record { name = a.1 ∙ ap (λ (x : LibraryEntry). Some x.name) same; first = e.1 ∙ ap (λ (x : LibraryEntry). Some x.fields.first) same }

-- .. of an import
import-word : (bytes : List ℕ) (h : LoaderHeader) (j : ℕ) (x : ImportEntry) → import_at bytes h j ≡ Some x → (w : ℕ) × (number_at 4 bytes (import_place h j) ≡ Some w) × (w % 2 ^ 24 ≡ x.name)
unfolding import_at
import-word bytes h j x is =
    let a = bound (number_at 4 bytes (import_place h j)) _ x is in
    (a.0, a.1, ap (λ (x : ImportEntry). x.name) (same_Some _ x a.2))

-- .. of a relocation header
record HasRelocation (bytes : List ℕ) (h : LoaderHeader) (k : ℕ) (e : RelocEntry) : Type 0 where
  pub section : number_at 2 bytes (reloc_place h k) ≡ Some e.section
  pub count : number_at 4 bytes (reloc_place h k + 4) ≡ Some e.count

relocation-fields : (bytes : List ℕ) (h : LoaderHeader) (k : ℕ) (x : RelocEntry) → reloc_at bytes h k ≡ Some x → HasRelocation bytes h k x
unfolding reloc_at
relocation-fields bytes h k x is =
    let a = bound (number_at 2 bytes (reloc_place h k)) _ x is in
    let b = bound (number_at 4 bytes (reloc_place h k + 4)) _ x a.2 in
    let c = bound (number_at 4 bytes (reloc_place h k + 8)) _ x b.2 in
    let same = same_Some _ x c.2 in
    record { section = a.1 ∙ ap (λ (x : RelocEntry). Some x.section) same; count = b.1 ∙ ap (λ (x : RelocEntry). Some x.count) same }

-- .. and of an export
record HasExport (bytes : List ℕ) (at : ℕ) (e : Entry) : Type 0 where
  pub word : ℕ
  pub there : number_at 4 bytes at ≡ Some word
  pub name : word % 2 ^ 24 ≡ e.name
  pub section : ℕ
  pub section_there : number_at 2 bytes (at + 8) ≡ Some section
  pub signed : cast_signed w16 section ≡ e.fields.section

entry-fields : (bytes : List ℕ) (at : ℕ) (x : Entry) → entry_at bytes at ≡ Some x → HasExport bytes at x
unfolding entry_at
entry-fields bytes at x is =
    let a = bound (number_at 4 bytes at) _ x is in
    let b = bound (number_at 4 bytes (at + 4)) _ x a.2 in
    let c = bound (signed_at w16 2 bytes (at + 8)) _ x b.2 in
    let same = same_Some _ x c.2 in
    let s = signed w16 2 bytes (at + 8) c.0 c.1 in
    record { word = a.0; there = a.1; name = ap (λ (x : Entry). x.name) same; section = s.0; section_there = s.1; signed = s.2 ∙ ap (λ (x : Entry). x.fields.section) same }

-- the export of a table is at its place
entry-is : (t : ExportTable) (i : ℕ) (x : Entry) → entry_of t i ≡ Some x → entry_at t.bytes (export_place t.power t.count i) ≡ Some x
unfolding entry_of
entry-is t i x is = by (nat_lt i t.count) is
  where
    by : (b : Bool) → cond b (entry_at t.bytes (export_place t.power t.count i)) None ≡ Some x → entry_at t.bytes (export_place t.power t.count i) ≡ Some x
    by true is = is
    by false is = absurd (cc is)

-- a table with exports isn't too large
small-table : (power count : ℕ) (bytes : List ℕ) → has_table power count bytes ≡ true → 0 < count → nat_le power most_power ≡ true
small-table power count bytes has some = elim (eqb_tells count 0) [
  | inl none ↦ absurd (let zero = none.1 in omega (arith, zero, some))
  | inr other ↦ by (nat_le power most_power) _ (rw other.0 at has)
]
  where
    by : (small rest : Bool) → (small && rest) ≡ true → small ≡ true
    by true rest has = refl
    by false rest has = absurd (cc has)

module _ (sections : ℕ) (bytes : List ℕ) (fits : length bytes < 2 ^ 64) (h : LoaderHeader) (read : header_of bytes ≡ Some h) (fault : LoaderFault) where
  abbrev P : LoaderFault → Type 0
  P = IsPlaced sections bytes

  from-start : (n field x : ℕ) → number_at n bytes field ≡ Some x → (field_from (Some 0) field >>= number_at n bytes) ≡ Some x
  from-start n field x is =
      let same : field ≡ 0 + field = omega arith in
      field-here n 0 field x bytes fits (subst (λ at. number_at n bytes at ≡ Some x) same is)

  -- the tables pass the end
  tables-placed : length bytes < tables_end h → BadTableOffset ≡ fault → P fault
  unfolding start_in
  tables-placed short same =
      let fields = header-fields bytes h read in
      subst P same (record { header = h; read = read; refused = short; here = record { value = h.library_count; there = from-start 4 24 h.library_count fields.libraries; is = refl } })

  -- there is no room for the export table
  exports-placed : has_exports bytes h ≡ false → BadExportTable ≡ fault → P fault
  unfolding start_in
  exports-placed none same =
      let fields = header-fields bytes h read in
      subst P same (record { header = h; read = read; refused = none; here = record { value = h.export_hash_offset; there = from-start 4 44 h.export_hash_offset fields.hash; is = refl } })

  -- an entry point is in no section
  entry-placed : first_met (entry_tests sections h) ≡ Some fault → P fault
  unfolding entry_tests start_in
  entry-placed is = by (not (is_entry sections h.main_section)) (not (is_entry sections h.init_section)) (not (is_entry sections h.term_section)) is
    where
      fields : HasHeader bytes h
      fields = header-fields bytes h read

      by : (a b c : Bool) → cond a (Some (BadEntry Main)) (cond b (Some (BadEntry Init)) (cond c (Some (BadEntry Term)) None)) ≡ Some fault → P fault
      by true b c met =
          let same = same_Some (BadEntry Main) fault met in
          let v = signed w32 4 bytes 0 h.main_section fields.main in
          subst P same (record { header = h; read = read; refused = is ∙ ap Some (sym same); here = record { value = v.0; there = from-start 4 0 v.0 v.1; is = v.2 } })
      by false true c met =
          let same = same_Some (BadEntry Init) fault met in
          let v = signed w32 4 bytes 8 h.init_section fields.init in
          subst P same (record { header = h; read = read; refused = is ∙ ap Some (sym same); here = record { value = v.0; there = field-here 4 8 0 v.0 bytes fits v.1; is = v.2 } })
      by false false true met =
          let same = same_Some (BadEntry Term) fault met in
          let v = signed w32 4 bytes 16 h.term_section fields.term in
          subst P same (record { header = h; read = read; refused = is ∙ ap Some (sym same); here = record { value = v.0; there = field-here 4 16 0 v.0 bytes fits v.1; is = v.2 } })
      by false false false met = absurd (cc met)

  -- the first field of a row
  first-here : (n from x : ℕ) → number_at n bytes from ≡ Some x → (field_from (Some from) 0 >>= number_at n bytes) ≡ Some x
  first-here n from x is =
      let same : from ≡ from + 0 = omega arith in
      field-here n from 0 x bytes fits (subst (λ at. number_at n bytes at ≡ Some x) same is)

  -- a library
  library-placed : (i : ℕ) → imports_from h ≤ length bytes → i < h.library_count → ((k : ℕ) → k < i → library_refusal bytes h k ≡ None) → library_refusal bytes h i ≡ Some fault → P fault
  unfolding library_tests start_in
  library-placed i room under before refused =
      let there = library_there bytes h i room under in
      let e = there.0 in
      let met : first_met (library_tests bytes h i e) ≡ Some fault = sym (ap (λ o. option_map_or (λ x. first_met (library_tests bytes h i x)) o (Some BadTableOffset)) there.1) ∙ refused in
      by e there.1 (is_none (name_at bytes (h.strings_offset + e.name))) (nat_lt h.import_count (e.fields.first + e.fields.count)) met
    where
      by : (e : LibraryEntry) → library_at bytes i ≡ Some e → (a b : Bool) → cond a (Some (BadName (row.Library i))) (cond b (Some (BadLibraryRange i)) None) ≡ Some fault → P fault
      by e there true b met =
          let same = same_Some (BadName (row.Library i)) fault met in
          let fields = library-fields bytes i e there in
          subst P same (record {
            header = h;
            read = read;
            below = under;
            before = before;
            refused = refused ∙ ap Some (sym same);
            fields = e;
            there = there;
            here = record { value = e.name; there = first-here 4 (library_place i) e.name fields.name; is = refl };
          })
      by e there false true met =
          let same = same_Some (BadLibraryRange i) fault met in
          let fields = library-fields bytes i e there in
          subst P same (record {
            header = h;
            read = read;
            below = under;
            before = before;
            refused = refused ∙ ap Some (sym same);
            fields = e;
            there = there;
            here = record { value = e.fields.first; there = field-here 4 (library_place i) 16 e.fields.first bytes fits fields.first; is = refl };
          })
      by e there false false met = absurd (cc met)

  -- where an import, a relocation header and an export begin
  import-start : (j : ℕ) → option_map (λ x. import_place x j) (header_of bytes) ≡ Some (import_place h j)
  import-start j = rw read refl

  import-placed : (j : ℕ) → relocs_from h ≤ length bytes → j < h.import_count → ((k : ℕ) → k < j → import_refusal bytes h k ≡ None) → import_refusal bytes h j ≡ Some fault → P fault
  unfolding import_tests start_in
  import-placed j room under before refused =
      let there = import_there bytes h j room under in
      let e = there.0 in
      let met : first_met (import_tests bytes h j e) ≡ Some fault = sym (ap (λ o. option_map_or (λ x. first_met (import_tests bytes h j x)) o (Some BadTableOffset)) there.1) ∙ refused in
      by e there.1 (is_none (name_at bytes (h.strings_offset + e.name))) (is_none (owner_of bytes h j)) met
    where
      here : (w : ℕ) → number_at 4 bytes (import_place h j) ≡ Some w → (field_from (option_map (λ x. import_place x j) (header_of bytes)) 0 >>= number_at 4 bytes) ≡ Some w
      here w is = ap (λ start. field_from start 0 >>= number_at 4 bytes) (import-start j) ∙ first-here 4 (import_place h j) w is

      by : (e : ImportEntry) → import_at bytes h j ≡ Some e → (a b : Bool) → cond a (Some (BadName (row.Import j))) (cond b (Some (OrphanImport j)) None) ≡ Some fault → P fault
      by e there true b met =
          let same = same_Some (BadName (row.Import j)) fault met in
          let w = import-word bytes h j e there in
          subst P same (record {
            header = h;
            read = read;
            below = under;
            before = before;
            refused = refused ∙ ap Some (sym same);
            fields = e;
            there = there;
            here = record { value = w.0; there = here w.0 w.1; is = w.2 };
          })
      by e there false true met =
          let same = same_Some (OrphanImport j) fault met in
          let w = import-word bytes h j e there in
          subst P same (record {
            header = h;
            read = read;
            below = under;
            before = before;
            refused = refused ∙ ap Some (sym same);
            fields = e;
            there = there;
            here = record { value = w.0; there = here w.0 w.1; is = w.2 };
          })
      by e there false false met = absurd (cc met)

  relocation-placed : (k : ℕ) → tables_end h ≤ length bytes → k < h.reloc_count → ((i : ℕ) → i < k → reloc_refusal bytes h sections i ≡ None) → reloc_refusal bytes h sections k ≡ Some fault → P fault
  unfolding reloc_tests start_in
  relocation-placed k room under before refused =
      let there = reloc_there bytes h k room under in
      let e = there.0 in
      let met : first_met (reloc_tests bytes h sections k e) ≡ Some fault = sym (ap (λ o. option_map_or (λ x. first_met (reloc_tests bytes h sections k x)) o (Some BadTableOffset)) there.1) ∙ refused in
      by e there.1 (nat_le sections e.section) (nat_lt (length bytes) (h.reloc_instr_offset + e.first + 2 * e.count)) met
    where
      start : option_map (λ x. reloc_place x k) (header_of bytes) ≡ Some (reloc_place h k)
      start = rw read refl

      by : (e : RelocEntry) → reloc_at bytes h k ≡ Some e → (a b : Bool) → cond a (Some (BadRelocSection k)) (cond b (Some (RelocOutside k)) None) ≡ Some fault → P fault
      by e there true b met =
          let same = same_Some (BadRelocSection k) fault met in
          let fields = relocation-fields bytes h k e there in
          subst P same (record {
            header = h;
            read = read;
            below = under;
            before = before;
            refused = refused ∙ ap Some (sym same);
            fields = e;
            there = there;
            here = record { value = e.section; there = ap (λ s. field_from s 0 >>= number_at 2 bytes) start ∙ first-here 2 (reloc_place h k) e.section fields.section; is = refl };
          })
      by e there false true met =
          let same = same_Some (RelocOutside k) fault met in
          let fields = relocation-fields bytes h k e there in
          subst P same (record {
            header = h;
            read = read;
            below = under;
            before = before;
            refused = refused ∙ ap Some (sym same);
            fields = e;
            there = there;
            here = record { value = e.count; there = ap (λ s. field_from s 4 >>= number_at 4 bytes) start ∙ field-here 4 (reloc_place h k) 4 e.count bytes fits fields.count; is = refl };
          })
      by e there false false met = absurd (cc met)

  export-placed : (i : ℕ) → has_exports bytes h ≡ true → i < h.export_count → ((k : ℕ) → k < i → export_refusal bytes h sections k ≡ None) → export_refusal bytes h sections i ≡ Some fault → P fault
  unfolding export_tests start_in
  export-placed i has under before refused =
      let there = export_there bytes h i has under in
      let e = there.0 in
      let met : first_met (export_tests bytes h sections i e) ≡ Some fault = sym (ap (λ o. option_map_or (λ x. first_met (export_tests bytes h sections i x)) o (Some BadExportTable)) there.1) ∙ refused in
      by e there.1 (nat_lt (length bytes) h.strings_offset || is_none (name_of (export_table bytes h) i)) (not (has_section h sections e.fields.value e.fields.section)) met
    where
      at : ℕ
      at = export_place h.export_power h.export_count i

      start : (header_of bytes >>= (λ x. export_start x i)) ≡ Some (h.export_hash_offset + at)
      start = rw (read, small-table h.export_power h.export_count (drop h.export_hash_offset bytes) has (omega (arith, under))) refl

      fields : (e : Entry) → entry_of (export_table bytes h) i ≡ Some e → HasExport (drop h.export_hash_offset bytes) at e
      fields e there = entry-fields (drop h.export_hash_offset bytes) at e (entry-is (export_table bytes h) i e there)

      by : (e : Entry) → entry_of (export_table bytes h) i ≡ Some e → (a b : Bool) → cond a (Some (BadName (row.Export i))) (cond b (Some (BadExportSection i)) None) ≡ Some fault → P fault
      by e there true b met =
          let same = same_Some (BadName (row.Export i)) fault met in
          let f = fields e there in
          subst P same (record {
            header = h;
            read = read;
            below = under;
            before = before;
            refused = refused ∙ ap Some (sym same);
            fields = e;
            there = there;
            here = record { value = f.word; there = ap (λ s. field_from s 0 >>= number_at 4 bytes) start ∙ first-here 4 (h.export_hash_offset + at) f.word (number-after 4 h.export_hash_offset at bytes f.word (omega arith) f.there); is = f.name };
          })
      by e there false true met =
          let same = same_Some (BadExportSection i) fault met in
          let f = fields e there in
          let moved : h.export_hash_offset + (at + 8) ≡ h.export_hash_offset + at + 8 = omega arith in
          let number = number-after 2 h.export_hash_offset (at + 8) bytes f.section (omega arith) f.section_there in
          subst P same (record {
            header = h;
            read = read;
            below = under;
            before = before;
            refused = refused ∙ ap Some (sym same);
            fields = e;
            there = there;
            here = record { value = f.section; there = ap (λ s. field_from s 8 >>= number_at 2 bytes) start ∙ field-here 2 (h.export_hash_offset + at) 8 f.section bytes fits (subst (λ place. number_at 2 bytes place ≡ Some f.section) moved number); is = f.signed };
          })
      by e there false false met = absurd (cc met)

  -- what is left of the rules, from the last ones on
  abbrev Rest : Type 0
  Rest = Result Loaded LoaderFault

  abbrev read_all : Rest
  read_all = Ok (record { sections = sections; bytes = bytes; header = h })

  abbrev from_exports : Rest
  from_exports = unless (first_among (export_refusal bytes h sections) 0 h.export_count) read_all

  abbrev from_table : Rest
  from_table = unless (fault_if (not (has_exports bytes h)) BadExportTable) from_exports

  abbrev from_relocations : Rest
  from_relocations = unless (first_among (reloc_refusal bytes h sections) 0 h.reloc_count) from_table

  abbrev from_entries : Rest
  from_entries = unless (first_met (entry_tests sections h)) from_relocations

  abbrev from_imports : Rest
  from_imports = unless (first_among (import_refusal bytes h) 0 h.import_count) from_entries

  abbrev from_libraries : Rest
  from_libraries = unless (first_among (library_refusal bytes h) 0 h.library_count) from_imports

  -- an error is that of the first rule that is broken
  here-is : (f : LoaderFault) (rest : Rest) → unless (Some f) rest ≡ Err fault → Some f ≡ Some fault
  here-is f rest is = cc is

  exports-rest : has_exports bytes h ≡ true → from_exports ≡ Err fault → P fault
  exports-rest has is = by (first_among (export_refusal bytes h sections) 0 h.export_count) refl is
    where
      by : (o : Option LoaderFault) → first_among (export_refusal bytes h sections) 0 h.export_count ≡ o → unless o read_all ≡ Err fault → P fault
      by None same is = absurd (cc is)
      by (Some f) same is =
          let first = some_among (export_refusal bytes h sections) 0 h.export_count fault (same ∙ here-is f read_all is) in
          export-placed first.at has (let high = first.high in omega (arith, high)) (λ k under. first.before k (omega arith) under) first.is

  table-rest : from_table ≡ Err fault → P fault
  table-rest is = by (has_exports bytes h) refl is
    where
      by : (b : Bool) → has_exports bytes h ≡ b → unless (fault_if (not b) BadExportTable) from_exports ≡ Err fault → P fault
      by true has is = exports-rest has is
      by false none is = exports-placed none (same_Some BadExportTable fault (here-is BadExportTable from_exports is))

  module _ (room : tables_end h ≤ length bytes) where
    relocations-rest : from_relocations ≡ Err fault → P fault
    relocations-rest is = by (first_among (reloc_refusal bytes h sections) 0 h.reloc_count) refl is
      where
        by : (o : Option LoaderFault) → first_among (reloc_refusal bytes h sections) 0 h.reloc_count ≡ o → unless o from_table ≡ Err fault → P fault
        by None same is = table-rest is
        by (Some f) same is =
            let first = some_among (reloc_refusal bytes h sections) 0 h.reloc_count fault (same ∙ here-is f from_table is) in
            relocation-placed first.at room (let high = first.high in omega (arith, high)) (λ k under. first.before k (omega arith) under) first.is

    entries-rest : from_entries ≡ Err fault → P fault
    entries-rest is = by (first_met (entry_tests sections h)) refl is
      where
        by : (o : Option LoaderFault) → first_met (entry_tests sections h) ≡ o → unless o from_relocations ≡ Err fault → P fault
        by None same is = relocations-rest is
        by (Some f) same is = entry-placed (same ∙ here-is f from_relocations is)

    imports-rest : from_imports ≡ Err fault → P fault
    imports-rest is = by (first_among (import_refusal bytes h) 0 h.import_count) refl is
      where
        by : (o : Option LoaderFault) → first_among (import_refusal bytes h) 0 h.import_count ≡ o → unless o from_entries ≡ Err fault → P fault
        by None same is = entries-rest is
        by (Some f) same is =
            let first = some_among (import_refusal bytes h) 0 h.import_count fault (same ∙ here-is f from_entries is) in
            import-placed first.at (omega (arith, room)) (let high = first.high in omega (arith, high)) (λ k under. first.before k (omega arith) under) first.is

    libraries-rest : from_libraries ≡ Err fault → P fault
    libraries-rest is = by (first_among (library_refusal bytes h) 0 h.library_count) refl is
      where
        by : (o : Option LoaderFault) → first_among (library_refusal bytes h) 0 h.library_count ≡ o → unless o from_imports ≡ Err fault → P fault
        by None same is = imports-rest is
        by (Some f) same is =
            let first = some_among (library_refusal bytes h) 0 h.library_count fault (same ∙ here-is f from_imports is) in
            library-placed first.at (omega (arith, room)) (let high = first.high in omega (arith, high)) (λ k under. first.before k (omega arith) under) first.is

  judged-placed : judged sections bytes h ≡ Err fault → P fault
  judged-placed is = by (nat_lt (length bytes) (tables_end h)) refl is
    where
      by : (b : Bool) → nat_lt (length bytes) (tables_end h) ≡ b → unless (fault_if b BadTableOffset) from_libraries ≡ Err fault → P fault
      by true short is = tables-placed (ltb-true (length bytes) (tables_end h) short) (same_Some BadTableOffset fault (here-is BadTableOffset from_libraries is))
      by false whole is = libraries-rest (ltb-false (length bytes) (tables_end h) whole) is

pub refusals_have_places : RefusalsHavePlaces
unfolding loaded_of start_in
refusals_have_places sections bytes fault fits is = by (header_of bytes) refl is
  where
    by : (o : Option LoaderHeader) → header_of bytes ≡ o → option_map_or (judged sections bytes) o (Err LoaderShort) ≡ Err fault → IsPlaced sections bytes fault
    by None read is = (let same : LoaderShort ≡ fault = cc is in subst (IsPlaced sections bytes) same (read, refl))
    by (Some h) read is = judged-placed sections bytes fits h read fault is
