-- The header of a loader section as C sees it.
use Rattle.pef_loader.specs.declared.header.LoaderHeader.{LoaderHeader}
use Rattle.pef_records.specs.declared.structs.PefLoader.{PefLoader}

-- the loader header as C sees it
abbrev pub loader_given : LoaderHeader → PefLoader
loader_given h = record {
  main_section = h.main_section;
  main_offset = h.main_offset;
  init_section = h.init_section;
  init_offset = h.init_offset;
  term_section = h.term_section;
  term_offset = h.term_offset;
  library_count = h.library_count;
  import_count = h.import_count;
  relocation_count = h.reloc_count;
  export_count = h.export_count;
}
