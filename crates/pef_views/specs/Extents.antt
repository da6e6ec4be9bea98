-- How far a container reaches: to the last byte of its headers, of the raw bytes of its sections and of their names (Mac OS
-- Runtime Architectures, "PEF Structure"). The format has no length of a container, so this is this project's own rule.
use Rattle.std.specs.Prelude.{◌≡◌, ℕ, ℤ, pos, negsuc, zero, suc, ◌+◌, ◌==◌, List, Option, None, Some, Result, Ok, Err, length, max, nat_lt, take, if◌then◌else◌}
use Rattle.std.specs.Option.{option_map_or}
use Rattle.pef_words.specs.Bytes.{name_at}
use Rattle.pef_views.specs.Container.{Contained, Section, container_of, section_name_of, section_of}
use Rattle.pef_views.specs.Header.{names_from}
use Rattle.pef_views.specs.declared.fault.ViewFault.{ViewFault}

-- the greatest of n numbers from one on; 0 if there are none
abbrev pub greatest : (ℕ → ℕ) → ℕ → ℕ → ℕ
greatest f from zero = 0
greatest f from (suc n) = max (f from) (greatest f (from + 1) n)

-- where the raw bytes of a section end; 0 if there are none
abbrev pub raw_end : Option Section → ℕ
raw_end None = 0
raw_end (Some s) = if s.header.packed_size == 0 then 0 else s.header.container_offset + s.header.packed_size

-- where the headers and the raw bytes end
abbrev pub parts_end : Contained → ℕ
parts_end c = max (names_from c.header) (greatest (λ i. raw_end (section_of c i)) 0 c.header.section_count)

-- where the name at an offset begins; 0 if there is none, or if it would begin past the end
abbrev pub name_begin : Contained → ℤ → ℕ
name_begin c (pos offset) = if nat_lt (names_from c.header + offset) (length c.bytes) then names_from c.header + offset else 0
name_begin c (negsuc _) = 0

-- where the name of a section begins
abbrev pub name_start : Contained → Option Section → ℕ
name_start c None = 0
name_start c (Some s) = name_begin c s.header.name_offset

-- where the last name begins
abbrev pub last_name : Contained → ℕ
last_name c = greatest (λ i. name_start c (section_of c i)) 0 c.header.section_count

-- where the names end, by where the last one begins: after its zero byte, or where the bytes end if there is none
abbrev pub names_end : Contained → ℕ → ℕ
names_end c at = if at == 0 then 0 else option_map_or (λ name. at + length name + 1) (name_at c.bytes at) (length c.bytes)

-- where the container ends
unfoldable pub extent : Contained → ℕ
extent c = max (parts_end c) (names_end c (last_name c))

-- the bytes of a container, without those after it
unfoldable pub own_bytes : Contained → List ℕ
own_bytes c = take (extent c) c.bytes

-- the bytes of a container without those after it. Other bytes are all kept
abbrev pub own_part : List ℕ → Result Contained ViewFault → List ℕ
own_part bytes (Ok c) = own_bytes c
own_part bytes (Err fault) = bytes

-- two containers have the same header, loader section, sections and names
pub record IsSame (c other : Contained) : Type 0 where
  pub header : other.header ≡ c.header
  pub loader : other.loader ≡ c.loader
  pub sections : (i : ℕ) → section_of other i ≡ section_of c i
  pub names : (i : ℕ) → section_name_of other i ≡ section_name_of c i

-- the own bytes of a container are the same container
abbrev pub KeepsContainers : Type 0
KeepsContainers = (bytes : List ℕ) (c : Contained) → container_of bytes ≡ Ok c → (own : Contained) × (container_of (own_bytes c) ≡ Ok own) × IsSame c own
