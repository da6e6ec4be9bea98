-- What the code keeps of a script while it reads, in the terms of the grammar.
use Rattle.std.specs.Prelude.{ℕ, List, map}
use Rattle.pef_names.specs.declared.name_key.NameKey.{NameKey}
use Rattle.pef_script.specs.declared.text.reader.Reader.{Reader}
use Rattle.pef_script.specs.Parts.{script_in}
use Rattle.pef_script.specs.Text.SoFar.{ScriptSoFar}

-- the names of a table's entries, in their order
abbrev pub names_in : {T : Type 0} → List (NameKey × T) → List (List ℕ)
names_in entries = map (λ entry. entry.0.bytes.now) entries

-- the script so far of a reader
abbrev pub so_far : Reader → ScriptSoFar
so_far r = record { script = record (script_in r.parts) { sections = r.sections.items }; reached = r.reached }
