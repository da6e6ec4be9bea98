-- The errors of a resource fork, with their numbers, names and places. They are this project's own.
use Rattle.std.specs.Prelude.{ℕ, List, codes}
use Rattle.mac_resources.specs.declared.fault.ResourceFault.{ResourceFault}
use Rattle.mac_resources.specs.declared.fault.ResourceFault.TheVariants.{ResourceMapOutside, BadTypeList, ResourceTypeCut, TooManyReferences, ReferenceCut, ResourceNameCut, ResourceDataOutside}

-- the numbers
abbrev pub fault_number : ResourceFault → ℕ
fault_number ResourceMapOutside = 87
fault_number (BadTypeList offset) = 88
fault_number (ResourceTypeCut type_row offset) = 89
fault_number (TooManyReferences type_row offset) = 90
fault_number (ReferenceCut type_row row offset) = 91
fault_number (ResourceNameCut type_row row offset) = 92
fault_number (ResourceDataOutside type_row row offset) = 93

-- the names, which are the texts
abbrev pub fault_name : ResourceFault → List ℕ
fault_name ResourceMapOutside = codes "ResourceMapOutside"
fault_name (BadTypeList offset) = codes "BadTypeList"
fault_name (ResourceTypeCut type_row offset) = codes "ResourceTypeCut"
fault_name (TooManyReferences type_row offset) = codes "TooManyReferences"
fault_name (ReferenceCut type_row row offset) = codes "ReferenceCut"
fault_name (ResourceNameCut type_row row offset) = codes "ResourceNameCut"
fault_name (ResourceDataOutside type_row row offset) = codes "ResourceDataOutside"

-- the offset in the fork of the field that an error is about: for a map outside, the header's offset of it
abbrev pub fault_offset : ResourceFault → ℕ
fault_offset ResourceMapOutside = 4
fault_offset (BadTypeList offset) = offset
fault_offset (ResourceTypeCut type_row offset) = offset
fault_offset (TooManyReferences type_row offset) = offset
fault_offset (ReferenceCut type_row row offset) = offset
fault_offset (ResourceNameCut type_row row offset) = offset
fault_offset (ResourceDataOutside type_row row offset) = offset
