-- The headers of a container and of a section as C sees them.
use Rattle.pef_views.specs.declared.header.Header.{Header}
use Rattle.pef_views.specs.declared.section.SectionHeader.{SectionHeader}
use Rattle.pef_records.specs.declared.structs.PefHeader.{PefHeader}
use Rattle.pef_records.specs.declared.structs.PefSection.{PefSection}

-- the header as C sees it
abbrev pub header_given : Header → PefHeader
header_given h = record {
  date_time_stamp = h.date_time_stamp;
  old_def_version = h.old_def_version;
  old_imp_version = h.old_imp_version;
  current_version = h.current_version;
  section_count = h.section_count;
  instantiated_section_count = h.instantiated_section_count;
  architecture = h.architecture;
}

-- a section's header as C sees it
abbrev pub section_given : SectionHeader → PefSection
section_given s = record {
  default_address = s.default_address;
  total_size = s.total_size;
  unpacked_size = s.unpacked_size;
  packed_size = s.packed_size;
  container_offset = s.container_offset;
  kind = s.section_kind;
  share = s.share_kind;
  alignment = s.alignment;
}
