-- Where a part of a container begins, by its kind and its number (Mac OS Runtime Architectures, "PEF Structure").
use Rattle.std.specs.Prelude.{ℕ, ◌+◌, List, Option, None, Some, option_map, nat_le, if◌then◌else◌}
use Rattle.pef_words.specs.Refusals.{◌>>=◌}
use Rattle.pef_format.specs.Places.{placed_from}
use Rattle.pef_format.specs.declared.place.Part.{Part}
use Rattle.pef_format.specs.declared.place.Part.TheVariants as part
use Rattle.pef_format.specs.declared.place.Place.{Place}
use Rattle.pef_views.specs.Container.{Contained, loader_offset_of, section_of}
use Rattle.pef_views.specs.Header.{section_header_from}
use Rattle.pef_hash.specs.Exports.{export_place}
use Rattle.pef_hash.specs.Limits.{most_power}
use Rattle.pef_loader.specs.declared.header.LoaderHeader.{LoaderHeader}
use Rattle.pef_loader.specs.Header.{header_of, import_place, library_place, reloc_place}
use Rattle.pef_loader.specs.Reloc.{reloc_at}

-- where export e begins, or none if there would be more slots than a table may have
abbrev pub export_start : LoaderHeader → ℕ → Option ℕ
export_start h e =
    if nat_le h.export_power most_power
    then Some (h.export_hash_offset + export_place h.export_power h.export_count e)
    else None

-- where the relocation program of a relocation header begins
abbrev pub program_start : List ℕ → LoaderHeader → ℕ → Option ℕ
program_start bytes h k = option_map (λ r. h.reloc_instr_offset + r.first) (reloc_at bytes h k)

-- where a part begins in a loader section of these bytes: the fields of the entry points are in the loader header, which
-- the libraries follow; where the other tables are is in that header
unfoldable pub start_in : List ℕ → Part → ℕ → Option ℕ
start_in bytes part.LoaderHeader row = Some 0
start_in bytes part.Main row = Some 0
start_in bytes part.Init row = Some 8
start_in bytes part.Term row = Some 16
start_in bytes part.Library row = Some (library_place row)
start_in bytes part.Import row = option_map (λ h. import_place h row) (header_of bytes)
start_in bytes part.Relocation row = option_map (λ h. reloc_place h row) (header_of bytes)
start_in bytes part.Export row = header_of bytes >>= (λ h. export_start h row)
start_in bytes part.Program row = header_of bytes >>= (λ h. program_start bytes h row)
start_in bytes part.Header row = None
start_in bytes part.Section row = None
start_in bytes part.PackedData row = None
start_in bytes part.Line row = None

-- where a part of a loader section begins in its container
abbrev pub loader_start : Contained → Part → ℕ → Option ℕ
loader_start c kind row = loader_offset_of c >>= (λ from. option_map (λ start. from + start) (start_in c.loader kind row))

-- where a part begins in a container
unfoldable pub start_of : Contained → Part → ℕ → Option ℕ
start_of c part.Header row = Some 0
start_of c part.Section row = Some (section_header_from row)
start_of c part.PackedData row = option_map (λ s. s.header.container_offset) (section_of c row)
start_of c kind row = loader_start c kind row

-- the place in a container of a part's field
abbrev pub place_of : Contained → Part → ℕ → ℕ → Place
place_of c kind row field = placed_from (start_of c kind row) kind row field
