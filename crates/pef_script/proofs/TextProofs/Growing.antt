-- The facts of a line whose tests don't hold, and what stays true of a script that gets one part
-- more.
use Rattle.std.proofs.Common.{◌≡◌, ℕ, ◌+◌, ◌-◌, ◌*◌, ◌<◌, ◌≤◌, ◌==◌, ◌||◌, not, Bool, true, false, cond, List, [], ◌∷◌, ◌++◌, Option, None, Some, Ok, Err, length, map, is_some, refl, subst, arith, length-append}
use Rattle.std.specs.Prelude.{slice_set, nat_lt, nat_le}
use Rattle.std.specs.List.{AllByRecursion}
use Rattle.std.proofs.lemmas.Bool.{and_from, le-leb, ltb-false, ltb-true, lt-ltb}
use Rattle.std.proofs.lemmas.List.{length-map, length-set, get_or_append_left, get_or-map}
use Rattle.std.proofs.lemmas.List.Sums.{sum_by-append}
use Rattle.pef_format.specs.declared.export.ExportValue.{ExportValue}
use Rattle.pef_format.specs.declared.export.ExportValue.TheVariants.{Absolute, InSection, Reexport}
use Rattle.pef_format.specs.Exports.{Export, value_of}
use Rattle.pef_format.specs.Symbols.{Import}
use Rattle.pef_words.specs.Refusals.{first_met}
use Rattle.pef_words.proofs.Laws.Refusals.{first_unmet}
use Rattle.pef_reloc.specs.declared.fixup.Base.{Base}
use Rattle.pef_reloc.specs.declared.fixup.Base.TheVariants as base
use Rattle.pef_reloc.specs.declared.fixup.Fixup.{Fixup}
use Rattle.pef_reloc.specs.Limits.{most_fixups, most_imports, most_sections, offset_limit}
use Rattle.pef_reloc.specs.Fixups.{base_fits, fixup_fits, fixups_fit, fixups_from}
use Rattle.pef_reloc.proofs.Laws.{fixups_fit-parts}
use Rattle.pef_script.specs.declared.text.fault.LineFault.{LineFault}
use Rattle.pef_script.specs.declared.text.fault.LineFault.TheVariants.{RepeatedName, OutOfOrder, Overlap, OutsideSection, TooMany}
use Rattle.pef_script.specs.Limits.{most_name_bytes}
use Rattle.pef_script.specs.Script.{DescribedLibrary, DescribedSection, bytes_of_names, name_bytes}
use Rattle.pef_script.specs.Text.SoFar.{ScriptSoFar, counted_name_tests, has_no_room, is_repeated, library_group, name_tests, no_section, number_of_name, section_so_far}
use Rattle.pef_script.specs.Text.Declarations.{entered_import}
use Rattle.pef_script.specs.Text.Contents.{bytes_tests, fixup_of, fixup_tests, with_contents, with_fixups, overlaps, placed}
use Rattle.pef_script.specs.WellFormed.{BaseThere, EntryHolds, ExportHolds, ExportsHold, ImportHolds, ImportsHold, PlaceHolds, ScriptHolds, SectionHolds, SectionsHold, ValueHolds, totals_of}
use Rattle.pef_words.proofs.Laws.Lists.{all-at, all-set, all-weaker}
use Rattle.pef_script.proofs.TextProofs.Leads.{Leads, led}
use Rattle.pef_script.proofs.TextProofs.ListLemmas.{map-set}
use Rattle.pef_script.proofs.TextProofs.Placing.{all-placed, fixups_end-placed, fixups_from-placed, length-placed}

-- what is true while a script is read
abbrev pub StateHolds : ScriptSoFar → Type 0
StateHolds s = ScriptHolds s.script

-- the facts of tests that don't hold

pub new_name : (names : List (List ℕ)) (name : List ℕ) → is_repeated names name ≡ false → number_of_name names name ≡ None
new_name names name isnt = by (number_of_name names name) isnt
  where
    by : (o : Option ℕ) → is_some o ≡ false → o ≡ None
    by None isnt = refl
    by (Some k) isnt = absurd (cc)

below_limit : (count limit : ℕ) → not (nat_lt count limit) ≡ false → count < limit
below_limit count limit unmet = by (nat_lt count limit) refl unmet
  where
    by : (b : Bool) → nat_lt count limit ≡ b → not b ≡ false → count < limit
    by true is unmet = ltb-true _ _ is
    by false is unmet = absurd (cc)

-- room for one more name among others, with this limit on their number
pub record NameRoom (names : List (List ℕ)) (limit : ℕ) (name : List ℕ) : Type 0 where
  pub new : number_of_name names name ≡ None
  pub room : length names < limit

pub name_tests-unmet : (names : List (List ℕ)) (limit : ℕ) (name : List ℕ) (others : List (Bool × LineFault)) → first_met (name_tests names limit name ++ others) ≡ None → NameRoom names limit name × (first_met others ≡ None)
name_tests-unmet names limit name others unmet =
    let a = first_unmet (is_repeated names name) (RepeatedName 1) (first_met ((not (nat_lt (length names) limit), TooMany 1) ∷ others)) unmet in
    let b = first_unmet (not (nat_lt (length names) limit)) (TooMany 1) (first_met others) a.1 in
    (record { new = new_name names name a.0; room = below_limit (length names) limit b.0 }, b.1)

-- .. and whose bytes count
pub record CountedRoom (s : ScriptSoFar) (names : List (List ℕ)) (limit : ℕ) (name : List ℕ) : Type 0 where
  pub new : number_of_name names name ≡ None
  pub room : length names < limit
  pub bytes : name_bytes s.script + (length name + 1) ≤ most_name_bytes

pub counted_tests-unmet : (s : ScriptSoFar) (names : List (List ℕ)) (limit : ℕ) (name : List ℕ) (others : List (Bool × LineFault)) → first_met (counted_name_tests s names limit name ++ others) ≡ None → CountedRoom s names limit name × (first_met others ≡ None)
counted_tests-unmet s names limit name others unmet =
    let a = name_tests-unmet names limit name ((has_no_room s name, TooMany 1) ∷ others) unmet in
    let b = first_unmet (has_no_room s name) (TooMany 1) (first_met others) a.1 in
    (record { new = a.0.new; room = a.0.room; bytes = ltb-false _ _ b.0 }, b.1)

pub bytes_tests-unmet : (s : ScriptSoFar) (k count : ℕ) → first_met (bytes_tests s k count) ≡ None → length (section_so_far s k).image + count ≤ (section_so_far s k).header.total
bytes_tests-unmet s k count unmet =
    let section = section_so_far s k in
    ltb-false _ _ (first_unmet (nat_lt section.header.total (length section.image + count)) (OutsideSection 2) None unmet).0

-- room for more fixups
pub record FixupRoom (section : DescribedSection) (offset count : ℕ) : Type 0 where
  pub room : length section.fixups + count ≤ most_fixups
  pub inside : offset + 4 * count ≤ section.header.total
  pub free : overlaps section.fixups offset count ≡ false

pub fixup_tests-unmet : (s : ScriptSoFar) (k offset count : ℕ) → first_met (fixup_tests s k offset count) ≡ None → FixupRoom (section_so_far s k) offset count
fixup_tests-unmet s k offset count unmet =
    let section = section_so_far s k in
    let last = (overlaps section.fixups offset count, Overlap 2) ∷ [] in
    let a = first_unmet (nat_lt most_fixups (length section.fixups + count)) (TooMany 1) (first_met ((nat_lt section.header.total (offset + 4 * count), OutsideSection 2) ∷ last)) unmet in
    let b = first_unmet (nat_lt section.header.total (offset + 4 * count)) (OutsideSection 2) (first_met last) a.1 in
    let c = first_unmet (overlaps section.fixups offset count) (Overlap 2) None b.1 in
    record { room = ltb-false _ _ a.0; inside = ltb-false _ _ b.0; free = c.0 }

-- places, entries and exports, with more sections and imports

place-more : (totals more : List ℕ) (k offset : ℕ) → PlaceHolds totals k offset → PlaceHolds (totals ++ more) k offset
place-more totals more k offset place = record {
  there = omega (arith, place.there, length-append totals more);
  inside = rw (get_or_append_left totals more 0 k place.there) place.inside;
}

pub entry-more : (totals more : List ℕ) (entry : Option (ℕ × ℕ)) → EntryHolds totals entry → EntryHolds (totals ++ more) entry
entry-more totals more None holds = tt
entry-more totals more (Some entry) holds = place-more totals more entry.0 entry.1 holds

value-more : (totals more : List ℕ) (n j : ℕ) (value : ExportValue) → ValueHolds totals n value → ValueHolds (totals ++ more) (n + j) value
value-more totals more n j (InSection k offset) place = place-more totals more k offset place
value-more totals more n j (Absolute number) small = small
value-more totals more n j (Reexport import) there = omega (arith, there)

export-more : (totals more : List ℕ) (n j : ℕ) (e : Export) → ExportHolds totals n e → ExportHolds (totals ++ more) (n + j) e
export-more totals more n j e holds = record {
  name = holds.name;
  class = holds.class;
  section = holds.section;
  value = value-more totals more n j (value_of e.fields.section e.fields.value) holds.value;
}

pub exports-more : (totals more : List ℕ) (n j : ℕ) (exports : List Export) → ExportsHold totals n exports → ExportsHold (totals ++ more) (n + j) exports
exports-more totals more n j exports holds = record {
  count = holds.count;
  each = all-weaker (ExportHolds totals n) (ExportHolds (totals ++ more) (n + j)) exports (export-more totals more n j) holds.each;
  apart = holds.apart;
}

-- with one more section or import, the bases that existed still exist

base-more : (m n i j : ℕ) (b : Base) → BaseThere m n b → BaseThere (m + i) (n + j) b
base-more m n i j (base.Section k) there = omega (arith, there)
base-more m n i j (base.Import l) there = omega (arith, there)

pub section-more : (m n i j : ℕ) (s : DescribedSection) → SectionHolds m n s → SectionHolds (m + i) (n + j) s
section-more m n i j s holds = record {
  name = holds.name;
  kind = holds.kind;
  share = holds.share;
  align = holds.align;
  total = holds.total;
  image = holds.image;
  fixups = holds.fixups;
  inside = holds.inside;
  bases = all-weaker (λ (f : Fixup). BaseThere m n f.base) (λ (f : Fixup). BaseThere (m + i) (n + j) f.base) s.fixups (λ f. base-more m n i j f.base) holds.bases;
}

pub sections-more : (n j : ℕ) (sections : List DescribedSection) → SectionsHold n sections → SectionsHold (n + j) sections
sections-more n j sections holds =
    let m = length sections in
    let same : m + 0 ≡ m = omega arith in
    record {
      count = holds.count;
      each = subst (λ k. AllByRecursion (SectionHolds k (n + j)) sections) same (all-weaker (SectionHolds m n) (SectionHolds (m + 0) (n + j)) sections (section-more m n 0 j) holds.each);
      apart = holds.apart;
    }

-- with one more library, the libraries of the imports still exist
pub imports-more : (n : ℕ) (imports : List Import) → ImportsHold n imports → ImportsHold (n + 1) imports
imports-more n imports holds = record {
  count = holds.count;
  each = all-weaker (ImportHolds n) (ImportHolds (n + 1)) imports (λ i fits. record { name = fits.name; class = fits.class; library = omega (arith, fits.library) }) holds.each;
  apart = holds.apart;
  grouped = holds.grouped;
}

-- an import is of the last library
pub entered_import-is : (s : ScriptSoFar) (library : ℕ) → entered_import s ≡ Ok library → library + 1 ≡ length s.script.libraries
entered_import-is s library is =
    let late = nat_lt library_group s.reached in
    let n = length s.script.libraries in
    led (λ m. m + 1 ≡ n) (entered_import s) library is (last (late || (n == 0)) n (some late s.script.libraries is))
  where
    some : (late : Bool) (libraries : List DescribedLibrary) → cond (late || (length libraries == 0)) (Err (OutOfOrder 0)) (Ok (length libraries - 1)) ≡ Ok library → 1 ≤ length libraries
    some true libraries is = absurd (cc)
    some false [] is = absurd (cc)
    some false (l ∷ libraries) is = omega arith

    last : (refused : Bool) (n : ℕ) → 1 ≤ n → Leads (λ m. m + 1 ≡ n) (cond refused (Err (OutOfOrder 0)) (Ok (n - 1)))
    last true n some = tt
    last false n some = omega (arith, some)

-- a place in section k
pub place_at : (s : ScriptSoFar) (k offset : ℕ) → k < length s.script.sections → offset ≤ (section_so_far s k).header.total → PlaceHolds (totals_of s.script.sections) k offset
place_at s k offset under inside =
    let count : length (totals_of s.script.sections) ≡ length s.script.sections = simp length-map in
    record { there = omega (arith, count, under); inside = rw (get_or-map (λ (x : DescribedSection). x.header.total) s.script.sections k no_section 0 under) inside }

-- the bytes of names, with one more

pub names-more : (names : List (List ℕ)) (name : List ℕ) → bytes_of_names (names ++ name ∷ []) ≡ bytes_of_names names + (length name + 1)
names-more names name = let more = sum_by-append (λ (n : List ℕ). length n + 1) names (name ∷ []) in omega (arith, more)

-- a section that is changed, except for its line

pub changed : (s : ScriptSoFar) (k : ℕ) (section : DescribedSection) → StateHolds s → section.header ≡ (section_so_far s k).header → SectionHolds (length s.script.sections) (length s.script.imports) section → StateHolds (with_contents s k section)
changed s k section holds same fits =
    let sections = s.script.sections in
    let count : length (slice_set sections k section) ≡ length sections = length-set sections k section in
    let totals : totals_of (slice_set sections k section) ≡ totals_of sections = map-set (λ (x : DescribedSection). x.header) (λ h. h.total) sections k no_section section same in
    let names : map (λ (x : DescribedSection). x.header.name) (slice_set sections k section) ≡ map (λ (x : DescribedSection). x.header.name) sections = map-set (λ (x : DescribedSection). x.header) (λ h. h.name) sections k no_section section same in
    record {
      versions = holds.versions;
      libraries = holds.libraries;
      imports = holds.imports;
      sections = record {
        count = omega (arith, count, holds.sections.count);
        each = rw count (all-set (SectionHolds (length sections) (length s.script.imports)) sections k section holds.sections.each fits);
        apart = rw names holds.sections.apart;
      };
      exports = rw totals holds.exports;
      main = rw totals holds.main;
      init = rw totals holds.init;
      term = rw totals holds.term;
      names = holds.names;
    }

pub at_section : (s : ScriptSoFar) (k : ℕ) → StateHolds s → k < length s.script.sections → SectionHolds (length s.script.sections) (length s.script.imports) (section_so_far s k)
at_section s k holds under = all-at (SectionHolds (length s.script.sections) (length s.script.imports)) s.script.sections k no_section holds.sections.each under

-- a base that exists is within the limits of bases
base_within : (m n : ℕ) (b : Base) → m ≤ most_sections → n ≤ most_imports → BaseThere m n b → base_fits b ≡ true
base_within m n (base.Section k) few some there = let under : k < most_sections = omega (arith, there) in lt-ltb k most_sections under
base_within m n (base.Import j) few some there = let under : j < most_imports = omega (arith, there) in lt-ltb j most_imports under

-- one more fixup, which overlaps none
pub fixup-more : (m n : ℕ) (s : DescribedSection) (offset : ℕ) (b : Base) → m ≤ most_sections → n ≤ most_imports → SectionHolds m n s → length s.fixups < most_fixups → offset + 4 ≤ s.header.total → overlaps s.fixups offset 1 ≡ false → BaseThere m n b
    → SectionHolds m n (with_fixups s (fixup_of offset b ∷ []))
unfolding fixups_fit
fixup-more m n s offset b few some holds room inside free there =
    let f : Fixup = fixup_of offset b in
    let before = fixups_fit-parts s.fixups holds.fixups in
    let count : length (placed s.fixups f) ≤ most_fixups = omega (arith, length-placed s.fixups f) in
    let end : offset + 4 ≤ offset_limit = omega (arith, holds.total, inside) in
    let fits : fixup_fits f ≡ true = and_from (nat_le (offset + 4) offset_limit) (base_fits b) (le-leb _ _ end) (base_within m n b few some there) in
    record {
      name = holds.name;
      kind = holds.kind;
      share = holds.share;
      align = holds.align;
      total = holds.total;
      image = holds.image;
      fixups = and_from (nat_le (length (placed s.fixups f)) most_fixups) (fixups_from 0 (placed s.fixups f)) (le-leb _ _ count) (fixups_from-placed 0 s.fixups f before.apart (omega arith) fits free);
      inside = fixups_end-placed 0 s.header.total s.fixups f holds.inside inside;
      bases = all-placed (λ (g : Fixup). BaseThere m n g.base) s.fixups f holds.bases there;
    }
