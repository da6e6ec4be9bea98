-- The exports of a stub of memory, one by one.
use Rattle.std.specs.Prelude.{◌≡◌, ◌+◌, ◌==◌, ◌||◌, ℕ, ℤ, pos, Bool, List, map, if◌then◌else◌}
use Rattle.pef_format.specs.Exports.{Export}
use Rattle.pef_format.specs.Symbols.{class_code}
use Rattle.pef_names.specs.declared.name_key.NameKey.{NameKey}
use Rattle.pef_script.specs.declared.parts.ExportData.{ExportData}
use Rattle.pef_script.specs.Parts.{export_of, named}
use Rattle.cfm_stubs.specs.MemoryStubs.{script_class}
use Rattle.cfm_stubs.specs.declared.memory.Places.{Places}

abbrev pub is_vector_class : ℕ → Bool
is_vector_class class = class == 2

abbrev pub is_routine_class : ℕ → Bool
is_routine_class class = class == 0 || class == 2 || class == 4

-- the places after a symbol of a class
abbrev pub next_places : ℕ → ℕ → Places → Places
next_places size class p =
    if is_vector_class class then record { code = p.code + 8; vector = p.vector + 8; zeros = p.zeros }
    else if is_routine_class class then record { code = p.code + 8; vector = p.vector; zeros = p.zeros }
    else record { code = p.code; vector = p.vector; zeros = p.zeros + size }

-- the exports of a table
abbrev pub exports_in : List (NameKey × ExportData) → List Export
exports_in entries = map (λ e. export_of (named e)) entries

-- the names of a table
abbrev pub entry_names : List (NameKey × ExportData) → List (List ℕ)
entry_names entries = map (λ e. e.0.bytes.now) entries

-- the export of a symbol of a class at the next place for it
abbrev pub data_of : ℕ → Places → ℤ × ℕ
data_of class p = if is_vector_class class then (pos 1, p.vector) else if is_routine_class class then (pos 0, p.code) else (pos 1, p.zeros)

-- .. as a table has it
pub record IsExportAt (code : ℕ) (p : Places) (e : ExportData) : Type 0 where
  pub class : class_code e.class ≡ script_class code
  pub value : (e.section, e.value) ≡ data_of code p
