-- Fragments without names, and the places where a container begins.
use Rattle.std.proofs.Common.{◌≡◌, ◌∙◌, ℕ, zero, suc, ◌+◌, ◌≤◌, Bool, true, false, List, [], ◌∷◌, ◌++◌, Option, None, Some, length, take, drop, map, refl, ap, subst, sym, arith}
use Rattle.std.specs.Prelude.{Result, Ok, Err, ◌&&◌, ◌==◌, ◌||◌, cond, min, nat_le, option_map}
use Rattle.std.specs.List.{AllByRecursion, slice_get}
use Rattle.std.specs.Option.{option_map_or}
use Rattle.std.specs.Str.{bytes_eq}
use Rattle.std.proofs.lemmas.Bool.{and_parts, eqb-true, le-leb, leb-true}
use Rattle.std.proofs.lemmas.List.{length-take, take-take}
use Rattle.std.proofs.Math.Seq.{take-length}
use Rattle.pef_words.specs.Bytes.{part_of}
use Rattle.pef_words.specs.Refusals.{◌>>=◌, result_map}
use Rattle.pef_words.specs.Results as results
use Rattle.mac_forks.specs.Apple.{AppleIs, apple_of, contents_in, entry_in, header_of as apple_header_of, if_known, is_apple, is_known, lying_at, number_of, part_with}
use Rattle.mac_forks.specs.MacBinary.{MacBinaryIs, all_zero, crc_is_right, comment_from, data_fork_from, fault_among, resource_fork_from, has_forks, has_shape, cuts_in, header_of, if_marked, if_shaped, is_marked, mac_binary_of, with_parts}
use Rattle.mac_forks.specs.MacFile.{MacFileIs, bare, mac_binary, apple, bare_or, mac_file_of}
use Rattle.mac_forks.specs.Parts.{Lying, part_in, part_within}
use Rattle.mac_forks.specs.declared.fault.ForkFault.{ForkFault}
use Rattle.mac_forks.specs.declared.fault.ForkFault.TheVariants.{AppleEntryOutside, AppleHeaderCut, BadAppleVersion}
use Rattle.mac_forks.specs.declared.mac_binary.MacBinaryHeader.{MacBinaryHeader}
use Rattle.mac_forks.specs.declared.apple.AppleEntry.{AppleEntry}
use Rattle.mac_forks.specs.declared.apple.AppleHeader.{AppleHeader}
use Rattle.mac_resources.specs.Fork.{ForkIs, has_form}
use Rattle.cfm_members.specs.Contents.{readable, rest_from}
use Rattle.cfm_members.specs.Forks.{data_fork_of}
use Rattle.cfm_members.specs.Fragments.{and_then, container_numbered, table_in_file}
use Rattle.cfm_members.specs.Members.{MemberIs, TableIs, all_members}
use Rattle.cfm_members.specs.Search.{begins_container, containers_in, tags}
use Rattle.cfm_members.specs.declared.fault.MemberFault.{MemberFault}
use Rattle.cfm_members.specs.declared.member_lookup_fault.MemberLookupFault.{MemberLookupFault}
use Rattle.cfm_members.specs.declared.member_lookup_fault.MemberLookupFault.TheVariants.{Fork, Resource, Member, NoContainer}
use Rattle.mac_fragments.specs.Extracted.{numbered}
use Rattle.mac_fragments.specs.Fragments.{FragmentIs, MemberForksAre, alone, and_found, container_of_member, data_fork_in, file_fragments, first_place, fork_in_file, fragments_beside, fragments_by, fragments_with, listed, member_fragments, own_bytes_of, some_of, unnamed_at, unnamed_fragments, unnamed_places, with_container, with_name}

-- a place where a container begins is one that the search finds
pub record IsFoundAt (places : List ℕ) (at : ℕ) : Type 0 where
  pub number : ℕ
  pub found : slice_get places number ≡ Some at

next-found : (b : Bool) (at first : ℕ) (places : List ℕ) → IsFoundAt places at → IsFoundAt (cond b (first ∷ places) places) at
next-found true at first places is = record { number = suc is.number; found = is.found }
next-found false at first places is = is

none-begins : (k : ℕ) → begins_container (drop k []) ≡ true → ⊥
unfolding begins_container
none-begins zero begins = cc
none-begins (suc k) begins = cc

pub found-at : (bytes : List ℕ) (k offset : ℕ) → begins_container (drop k bytes) ≡ true → IsFoundAt (containers_in bytes offset) (offset + k)
found-at [] k offset begins = absurd (none-begins k begins)
found-at (b ∷ bytes) zero offset begins =
    let e : offset + 0 ≡ offset = omega arith in
    rw (begins, e) (record { number = 0; found = refl })
found-at (b ∷ bytes) (suc k) offset begins =
    let e : offset + 1 + k ≡ offset + suc k = omega arith in
    next-found (begins_container (b ∷ bytes)) (offset + suc k) offset (containers_in bytes (offset + 1)) (subst (λ at. IsFoundAt (containers_in bytes (offset + 1)) at) e (found-at bytes k (offset + 1) begins))

-- bytes whose first ones begin with a container begin with it
begins-longer : (n : ℕ) (bytes : List ℕ) → begins_container (take n bytes) ≡ true → begins_container bytes ≡ true
unfolding begins_container
begins-longer n bytes begins =
    let parts = and_parts (nat_le 40 (length (take n bytes))) (bytes_eq (take 8 (take n bytes)) tags) begins in
    let long : 40 ≤ length (take n bytes) = leb-true 40 (length (take n bytes)) parts.0 in
    let size : 40 ≤ min n (length bytes) = rw (← length-take n bytes) long in
    let many : 8 ≤ n = omega (arith, size) in
    let all : 40 ≤ length bytes = omega (arith, size) in
    rw (le-leb 40 (length bytes) all, ← take-take 8 n bytes many) parts.1

-- a part of a file: its bytes are those from its offset on
record IsPart (bytes : List ℕ) (part : Lying) : Type 0 where
  size : ℕ
  is : part.bytes ≡ take size (drop part.offset bytes)

part-found : (bytes : List ℕ) (part : Lying) → IsPart bytes part → begins_container part.bytes ≡ true → IsFoundAt (containers_in bytes 0) part.offset
part-found bytes part p begins =
    let e : 0 + part.offset ≡ part.offset = omega arith in
    subst (λ at. IsFoundAt (containers_in bytes 0) at) e (found-at bytes part.offset 0 (begins-longer p.size (drop part.offset bytes) (ap begins_container (sym p.is) ∙ begins)))

-- a part that lies in a file is a part of it
lying : (b : Bool) (offset : ℕ) (found : List ℕ) (part : Lying) → option_map (λ p. record { offset = offset; bytes = p }) (cond b (Some found) None) ≡ Some part → (offset ≡ part.offset) × (found ≡ part.bytes)
lying true offset found part is = (cc, cc)
lying false offset found part is = absurd (cc)

take-nothing : (len : ℕ) (bytes : List ℕ) (other : List ℕ) → len ≡ 0 → take len bytes ≡ take len other
take-nothing len bytes other none = rw (none) refl

part-lies : (bytes : List ℕ) (offset len : ℕ) (part : Lying) → part_in bytes offset len ≡ Some part → IsPart bytes part
unfolding part_in part_of
part-lies bytes offset len part is = by (len == 0) refl is
  where
    by : (z : Bool) → (len == 0) ≡ z → option_map (λ p. record { offset = offset; bytes = p }) (cond (nat_le ((cond z 0 offset) + len) (length bytes)) (Some (take len (drop (cond z 0 offset) bytes))) None) ≡ Some part → IsPart bytes part
    by true none is =
        let lies = lying (nat_le (0 + len) (length bytes)) offset (take len (drop 0 bytes)) part is in
        record { size = len; is = sym lies.1 ∙ take-nothing len (drop 0 bytes) (drop part.offset bytes) (eqb-true len 0 none) }
    by false some is =
        let lies = lying (nat_le (offset + len) (length bytes)) offset (take len (drop offset bytes)) part is in
        record { size = len; is = sym lies.1 ∙ ap (λ at. take len (drop at bytes)) lies.0 }

-- what a reading that continues has read
record Continues {A B : Type 0} (o : Option A) (next : A → Option B) (y : B) : Type 0 where
  value : A
  read : o ≡ Some value
  is : next value ≡ Some y

continued : {A B : Type 0} (o : Option A) (next : A → Option B) (y : B) → (o >>= next) ≡ Some y → Continues o next y
continued None next y is = absurd (cc)
continued (Some x) next y is = record { value = x; read = refl; is = is }

chosen-some : {A : Type 0} (b : Bool) (o : Option A) (y : A) → cond b o None ≡ Some y → o ≡ Some y
chosen-some true o y is = is
chosen-some false o y is = absurd (cc)

-- the data fork of a file in MacBinary
binary-parts : (bytes : List ℕ) (h : MacBinaryHeader) (right first : Bool) (m : MacBinaryIs) → with_parts bytes h right first ≡ Some m → m.data_fork ≡ part_within bytes (data_fork_from h) h.data_length
binary-parts bytes h right first m is = parts-then (part_in bytes 2 h.name_length) is
  where
    parts-then : (name : Option Lying) → (name >>= (λ n. Some (record {
      header = h;
      is_first_version = first;
      fault = fault_among right first;
      name = n;
      data_fork = part_within bytes (data_fork_from h) h.data_length;
      resource_fork = part_within bytes (resource_fork_from h) h.resource_length;
      comment = part_in bytes (comment_from h) h.extension.comment_length;
      cuts = cuts_in bytes h;
    }))) ≡ Some m → m.data_fork ≡ part_within bytes (data_fork_from h) h.data_length
    parts-then None is = absurd (cc)
    parts-then (Some n) is = cc

binary-data : (bytes : List ℕ) (m : MacBinaryIs) → mac_binary_of bytes ≡ Some m → IsPart bytes m.data_fork
unfolding mac_binary_of part_within
binary-data bytes m is =
    let header = continued (header_of bytes) (if_shaped bytes) m is in
    let h = header.value in
    let shaped = chosen-some (has_shape h) (part_of bytes 99 29 >>= (λ rest. part_of bytes 0 124 >>= (λ tested. if_marked bytes h (crc_is_right tested h) (all_zero rest)))) m header.is in
    let rest = continued (part_of bytes 99 29) (λ rest. part_of bytes 0 124 >>= (λ tested. if_marked bytes h (crc_is_right tested h) (all_zero rest))) m shaped in
    let tested = continued (part_of bytes 0 124) (λ tested. if_marked bytes h (crc_is_right tested h) (all_zero rest.value)) m rest.is in
    let right = crc_is_right tested.value h in
    let first = all_zero rest.value in
    let marked = chosen-some (right || is_marked h || first && has_forks (cuts_in bytes h)) (with_parts bytes h right first) m tested.is in
    let lies = binary-parts bytes h right first m marked in
    rw (lies) (record { size = h.data_length; is = refl })

-- the data fork of a file in AppleSingle or AppleDouble
apple-entry : (bytes : List ℕ) (i : ℕ) (e : Result AppleEntry ForkFault) (part : Lying) → results.◌>>=◌ e (lying_at bytes i) ≡ Ok part → IsPart bytes part
apple-entry bytes i (Ok e) part is = lies-some (part_in bytes e.offset e.length) refl is
  where
    lies-some : (o : Option Lying) → part_in bytes e.offset e.length ≡ o → option_map_or Ok o (Err (AppleEntryOutside i)) ≡ Ok part → IsPart bytes part
    lies-some (Some p) found is = (let same : p ≡ part = cc in part-lies bytes e.offset e.length part (found ∙ ap Some same))
    lies-some None found is = absurd (cc)
apple-entry bytes i (Err fault) part is = absurd (cc)

apple-data : (a : AppleIs) (n : Option ℕ) (part : Lying) → option_map (contents_in a.bytes) n ≡ Some (Ok part) → IsPart a.bytes part
apple-data a None part is = absurd (cc)
apple-data a (Some i) part is = (let entry : contents_in a.bytes i ≡ Ok part = cc in apple-entry a.bytes i (entry_in a.bytes i) part entry)

apple-bytes : (bytes : List ℕ) (a : AppleIs) → apple_of bytes ≡ Ok a → a.bytes ≡ bytes
unfolding apple_of
apple-bytes bytes a is = by-header (apple_header_of bytes) is
  where
    by-known : (b : Bool) (h : AppleHeader) (filler : List ℕ) → cond b (Ok (record { bytes = bytes; header = h; filler = filler })) (Err BadAppleVersion) ≡ Ok a → a.bytes ≡ bytes
    by-known true h filler is = cc
    by-known false h filler is = absurd (cc)

    by-filler : (h : AppleHeader) (filler : Option (List ℕ)) → option_map_or (if_known bytes h) filler (Err AppleHeaderCut) ≡ Ok a → a.bytes ≡ bytes
    by-filler h None is = absurd (cc)
    by-filler h (Some filler) is = by-known (is_known h.version) h filler is

    by-header : (h : Option AppleHeader) → option_map_or (λ h. option_map_or (if_known bytes h) (part_of bytes 8 16) (Err AppleHeaderCut)) h (Err AppleHeaderCut) ≡ Ok a → a.bytes ≡ bytes
    by-header None is = absurd (cc)
    by-header (Some h) is = by-filler h (part_of bytes 8 16) is

-- the data fork of a file
readable-some : (fork : Option (Result Lying ForkFault)) (part : Lying) → readable fork ≡ Some part → fork ≡ Some (Ok part)
readable-some None part is = absurd (cc)
readable-some (Some (Ok p)) part is = (let e : p ≡ part = cc in ap (λ p. Some (Ok p)) e)
readable-some (Some (Err fault)) part is = absurd (cc)

bare-data : (b : Bool) (bytes : List ℕ) (part : Lying) → readable (cond b None (Some (Ok (record { offset = 0; bytes = bytes })))) ≡ Some part → IsPart bytes part
bare-data true bytes part is = absurd (cc)
bare-data false bytes part is =
    let all : Lying = record { offset = 0; bytes = bytes } in
    let e : all ≡ part = cc in
    subst (IsPart bytes) e (record { size = length bytes; is = sym (take-length bytes) })

seen-as : (bytes : List ℕ) (file other : MacFileIs) (part : Lying) → file ≡ other → readable (data_fork_of bytes other) ≡ Some part → readable (data_fork_of bytes file) ≡ Some part
seen-as bytes file other part same is = ap (λ f. readable (data_fork_of bytes f)) same ∙ is

file-data : (bytes : List ℕ) (file : MacFileIs) (part : Lying) → mac_file_of bytes ≡ Ok file → readable (data_fork_of bytes file) ≡ Some part → IsPart bytes part
unfolding mac_file_of
file-data bytes file part is here = by-kind (is_apple bytes) is
  where
    by-apple : (r : Result AppleIs ForkFault) → apple_of bytes ≡ r → result_map apple r ≡ Ok file → IsPart bytes part
    by-apple (Ok a) read is =
        let e : apple a ≡ file = cc in
        let found = readable-some (part_with a 1) part (seen-as bytes (apple a) file part e here) in
        subst (λ all. IsPart all part) (apple-bytes bytes a read) (apple-data a (number_of a 1) part found)
    by-apple (Err fault) read is = absurd (cc)

    by-binary : (m : Option MacBinaryIs) → mac_binary_of bytes ≡ m → bare_or bytes m ≡ file → IsPart bytes part
    by-binary None read is =
        bare-data (has_form bytes) bytes part (seen-as bytes (bare bytes) file part is here)
    by-binary (Some m) read is =
        let same : Some m.data_fork ≡ Some part = seen-as bytes (mac_binary m) file part is here in
        let fork : m.data_fork ≡ part = cc in
        subst (IsPart bytes) fork (binary-data bytes m read)

    by-kind : (b : Bool) → cond b (result_map apple (apple_of bytes)) (Ok (bare_or bytes (mac_binary_of bytes))) ≡ Ok file → IsPart bytes part
    by-kind true is = by-apple (apple_of bytes) refl is
    by-kind false is = (let e : bare_or bytes (mac_binary_of bytes) ≡ file = cc in by-binary (mac_binary_of bytes) refl e)

-- a fragment at a place that the search finds is numbered
record IsNumbered (bytes own : List ℕ) : Type 0 where
  number : ℕ
  is : numbered bytes number ≡ Some own

at-place : (bytes : List ℕ) (at : ℕ) → IsFoundAt (containers_in bytes 0) at → IsNumbered bytes (unnamed_at bytes at).bytes
unfolding container_numbered
at-place bytes at found = record { number = found.number; is = ap (λ place. option_map own_bytes_of (option_map (rest_from bytes) place)) found.found }

-- the places of fragments without names
place-here : (places : List ℕ) (k : ℕ) (f : FragmentIs) (bytes : List ℕ) → slice_get (map (unnamed_at bytes) places) k ≡ Some f → (place : ℕ) × (slice_get places k ≡ Some place) × (unnamed_at bytes place ≡ f)
place-here [] k f bytes is = absurd (cc)
place-here (p ∷ places) zero f bytes is = (let e : unnamed_at bytes p ≡ f = cc in (p, refl, e))
place-here (p ∷ places) (suc k) f bytes is = place-here places k f bytes is

only-place : (first at k : ℕ) → slice_get (first ∷ []) k ≡ Some at → first ≡ at
only-place first at zero is = cc
only-place first at (suc k) is = absurd (cc)

place-found : (bytes : List ℕ) (fork : Option Lying) (at k : ℕ) → ((part : Lying) → fork ≡ Some part → IsPart bytes part)
    → slice_get (unnamed_places bytes (first_place fork)) k ≡ Some at → IsFoundAt (containers_in bytes 0) at
place-found bytes None at k parts is = record { number = k; found = is }
place-found bytes (Some part) at k parts is = by (begins_container part.bytes) refl is
  where
    by : (b : Bool) → begins_container part.bytes ≡ b → slice_get (unnamed_places bytes (cond b (Some part.offset) None)) k ≡ Some at → IsFoundAt (containers_in bytes 0) at
    by true begins is = subst (IsFoundAt (containers_in bytes 0)) (only-place part.offset at k is) (part-found bytes part (parts part refl) begins)
    by false begins is = record { number = k; found = is }

some-of : (found fs : List FragmentIs) → some_of found ≡ Ok fs → found ≡ fs
some-of [] fs is = absurd (cc)
some-of (f ∷ found) fs is = cc

unnamed-number : (bytes : List ℕ) (fork : Option Lying) (fs : List FragmentIs) (k : ℕ) (f : FragmentIs) → ((part : Lying) → fork ≡ Some part → IsPart bytes part)
    → unnamed_fragments bytes fork ≡ Ok fs → slice_get fs k ≡ Some f → IsNumbered bytes f.bytes
unnamed-number bytes fork fs k f parts is here =
    let all = some-of (map (unnamed_at bytes) (unnamed_places bytes (first_place fork))) fs is in
    let p = place-here (unnamed_places bytes (first_place fork)) k f bytes (ap (λ xs. slice_get xs k) all ∙ here) in
    subst (λ g. IsNumbered bytes g.bytes) p.2 (at-place bytes p.0 (place-found bytes fork p.0 k parts p.1))

-- a member's fragment has a name
abbrev AreNamed : List FragmentIs → Type 0
AreNamed = AllByRecursion (λ f. f.name ≡ None → ⊥)

named-append : (found : List FragmentIs) (f : FragmentIs) → AreNamed found → (f.name ≡ None → ⊥) → AreNamed (found ++ f ∷ [])
named-append [] f all named = (named, tt)
named-append (g ∷ found) f all named = (all.0, named-append found f all.1 named)

named-at : (fs : List FragmentIs) (k : ℕ) (f : FragmentIs) → AreNamed fs → slice_get fs k ≡ Some f → f.name ≡ None → ⊥
named-at [] k f all is none = cc
named-at (g ∷ fs) zero f all is none = (let e : g ≡ f = cc in all.0 (ap (λ g. g.name) e ∙ none))
named-at (g ∷ fs) (suc k) f all is none = named-at fs k f all.1 is none

-- .. whatever rows follow
contained-then : (forks : MemberForksAre) (m : MemberIs) (own : List ℕ) (r : Result (List ℕ) MemberLookupFault) (found : List FragmentIs) (rows : List (Result MemberIs MemberFault)) (fs : List FragmentIs)
    → ((next : List FragmentIs) → AreNamed next → listed forks next rows ≡ Ok fs → AreNamed fs)
    → AreNamed found → and_then (with_container m own r) (λ h. listed forks (and_found found h) rows) ≡ Ok fs → AreNamed fs
contained-then forks m own (Ok bytes) found rows fs again all is =
    let f : FragmentIs = record { name = Some own; usage = m.header.usage_code; bytes = bytes } in
    again (found ++ f ∷ []) (named-append found f all (λ none. absurd (cc))) is
contained-then forks m own (Err NoContainer) found rows fs again all is = again found all is
contained-then forks m own (Err (Fork fault)) found rows fs again all is = absurd (cc)
contained-then forks m own (Err (Resource fault)) found rows fs again all is = absurd (cc)
contained-then forks m own (Err (Member fault)) found rows fs again all is = absurd (cc)

member-then : (forks : MemberForksAre) (m : MemberIs) (is68 : Bool) (own : Result (List ℕ) MemberFault) (found : List FragmentIs) (rows : List (Result MemberIs MemberFault)) (fs : List FragmentIs)
    → ((next : List FragmentIs) → AreNamed next → listed forks next rows ≡ Ok fs → AreNamed fs)
    → AreNamed found → and_then (cond is68 (Ok None) (with_name forks m own)) (λ h. listed forks (and_found found h) rows) ≡ Ok fs → AreNamed fs
member-then forks m true own found rows fs again all is = again found all is
member-then forks m false (Ok own) found rows fs again all is = contained-then forks m own (container_of_member forks m) found rows fs again all is
member-then forks m false (Err fault) found rows fs again all is = absurd (cc)

listed-named : (forks : MemberForksAre) (found : List FragmentIs) (rows : List (Result MemberIs MemberFault)) (fs : List FragmentIs) → AreNamed found → listed forks found rows ≡ Ok fs → AreNamed fs
listed-named forks found [] fs all is = (let e : found ≡ fs = cc in subst AreNamed e all)
listed-named forks found (Ok m ∷ rows) fs all is =
    member-then forks m (m.header.architecture == 0x6D36_386B) m.name found rows fs (λ next named lists. listed-named forks next rows fs named lists) all is
listed-named forks found (Err fault ∷ rows) fs all is = absurd (cc)

members-named : (table : TableIs) (data_fork : Option (Result Lying ForkFault)) (resources : Result ForkIs MemberLookupFault) (fs : List FragmentIs) → member_fragments table data_fork resources ≡ Ok fs → AreNamed fs
members-named table data_fork (Ok fork) fs is = by (listed forks [] (all_members table)) refl is
  where
    forks : MemberForksAre
    forks = record { data_fork = data_fork; resources = fork }

    by : (found : Result (List FragmentIs) MemberLookupFault) → listed forks [] (all_members table) ≡ found → and_then found some_of ≡ Ok fs → AreNamed fs
    by (Ok found) lists is = subst AreNamed (some-of found fs is) (listed-named forks [] (all_members table) found tt lists)
    by (Err fault) lists is = absurd (cc)
members-named table data_fork (Err fault) fs is = absurd (cc)

-- each fragment without a name is numbered
unnamed-by : (bytes resources : List ℕ) (data_fork : Option (Result Lying ForkFault)) (table : Result TableIs MemberLookupFault) (fs : List FragmentIs) (k : ℕ) (f : FragmentIs)
    → ((part : Lying) → readable data_fork ≡ Some part → IsPart bytes part)
    → fragments_by bytes resources data_fork table ≡ Ok fs → slice_get fs k ≡ Some f → f.name ≡ None → IsNumbered bytes f.bytes
unnamed-by bytes resources data_fork (Ok table) fs k f parts is here none = absurd (named-at fs k f (members-named table data_fork (fork_in_file resources) fs is) here none)
unnamed-by bytes resources data_fork (Err NoContainer) fs k f parts is here none = unnamed-number bytes (readable data_fork) fs k f parts is here
unnamed-by bytes resources data_fork (Err (Fork fault)) fs k f parts is here none = absurd (cc)
unnamed-by bytes resources data_fork (Err (Resource fault)) fs k f parts is here none = absurd (cc)
unnamed-by bytes resources data_fork (Err (Member fault)) fs k f parts is here none = absurd (cc)

beside-number : (bytes resources : List ℕ) (fs : List FragmentIs) (k : ℕ) (f : FragmentIs) → fragments_beside bytes resources ≡ Ok fs → slice_get fs k ≡ Some f → f.name ≡ None → IsNumbered bytes f.bytes
unfolding fragments_beside
beside-number bytes resources fs k f is here none = by (mac_file_of bytes) refl is
  where
    by : (file : Result MacFileIs ForkFault) → mac_file_of bytes ≡ file → fragments_with bytes resources (data_fork_in bytes file) ≡ Ok fs → IsNumbered bytes f.bytes
    by (Ok file) read is = unnamed-by bytes resources (data_fork_of bytes file) (table_in_file resources) fs k f (λ part here. file-data bytes file part read here) is here none
    by (Err fault) read is = absurd (cc)

first-number : (bytes : List ℕ) → begins_container bytes ≡ true → IsFoundAt (containers_in bytes 0) 0
first-number bytes begins = found-at bytes 0 0 begins

alone-number : (bytes : List ℕ) (b : Bool) (fs : List FragmentIs) (k : ℕ) (f : FragmentIs) → begins_container bytes ≡ b
    → cond b (alone bytes) (fragments_beside bytes bytes) ≡ Ok fs → slice_get fs k ≡ Some f → f.name ≡ None → IsNumbered bytes f.bytes
alone-number bytes true fs k f begins is here none =
    let e : unnamed_at bytes 0 ∷ [] ≡ fs = cc in
    let p = place-here (0 ∷ []) k f bytes (ap (λ xs. slice_get xs k) e ∙ here) in
    subst (λ g. IsNumbered bytes g.bytes) p.2 (at-place bytes p.0 (subst (IsFoundAt (containers_in bytes 0)) (only-place 0 p.0 k p.1) (first-number bytes begins)))
alone-number bytes false fs k f begins is here none = beside-number bytes bytes fs k f is here none

pub unnamed-fragments : (bytes : List ℕ) (resources : Option (List ℕ)) (fs : List FragmentIs) (k : ℕ) (f : FragmentIs) → file_fragments bytes resources ≡ Ok fs → slice_get fs k ≡ Some f → f.name ≡ None → (n : ℕ) × (numbered bytes n ≡ Some f.bytes)
unfolding file_fragments
unnamed-fragments bytes (Some resources) fs k f is here none = (let n = beside-number bytes resources fs k f is here none in (n.number, n.is))
unnamed-fragments bytes None fs k f is here none = (let n = alone-number bytes (begins_container bytes) fs k f refl is here none in (n.number, n.is))

-- the fragment of a file that begins with a container is the first that the search finds
head-number : (bytes : List ℕ) → begins_container bytes ≡ true → slice_get (containers_in bytes 0) 0 ≡ Some 0
unfolding begins_container
head-number [] begins = absurd (cc)
head-number (b ∷ bytes) begins = rw (begins) refl

pub alone-fragment : (bytes : List ℕ) → begins_container bytes ≡ true → (f : FragmentIs) × (file_fragments bytes None ≡ Ok (f ∷ [])) × (f.name ≡ None) × (numbered bytes 0 ≡ Some f.bytes)
unfolding file_fragments container_numbered
alone-fragment bytes begins = (
  unnamed_at bytes 0,
  ap (λ b. cond b (alone bytes) (fragments_beside bytes bytes)) begins,
  refl,
  ap (λ place. option_map own_bytes_of (option_map (rest_from bytes) place)) (head-number bytes begins),
)
