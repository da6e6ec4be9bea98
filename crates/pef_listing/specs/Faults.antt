-- The refusals of a listing are those of the readers, with their places in the container.
use Rattle.std.specs.Prelude.{ℕ, List, Option, Some}
use Rattle.pef_format.specs.declared.place.Place.{Place}
use Rattle.pef_views.specs.Faults as views
use Rattle.pef_loader.specs.Faults as loader
use Rattle.pef_reloc.specs.Faults as reloc
use Rattle.pef_listing.specs.declared.fault.ListFault.{ListFault}
use Rattle.pef_listing.specs.declared.fault.ListFault.TheVariants.{View, Loader, Reloc}

-- the numbers and names of the refusals
abbrev pub fault_number : ListFault → ℕ
fault_number (View fault) = views.fault_number fault
fault_number (Loader fault place) = loader.fault_number fault
fault_number (Reloc program) = reloc.fault_number program.fault

abbrev pub fault_name : ListFault → List ℕ
fault_name (View fault) = views.fault_name fault
fault_name (Loader fault place) = loader.fault_name fault
fault_name (Reloc program) = reloc.fault_name program.fault

-- the places of the refusals
abbrev pub fault_place : ListFault → Option Place
fault_place (View fault) = views.fault_place fault
fault_place (Loader fault place) = Some place
fault_place (Reloc program) = Some program.place
