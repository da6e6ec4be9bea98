-- Where an error is: in the container of the fragment that it names, or of the file; or in a line of a text.
use Rattle.std.specs.Prelude.{Option, None, Some}
use Rattle.cfm_prepare.specs.Faults as prepare
use Rattle.pef_cert.specs.declared.text.fault.CertFault.{CertFault}
use Rattle.pef_cert.specs.declared.text.fault.CertFault.TheVariants as cert
use Rattle.pef_format.specs.declared.place.Part.TheVariants.{Line}
use Rattle.pef_format.specs.declared.place.Place.{Place}
use Rattle.pef_listing.specs.Faults as listing
use Rattle.pef_script.specs.declared.text.fault.ScriptFault.{ScriptFault}
use Rattle.pef_script.specs.declared.text.fault.ScriptFault.TheVariants as script
use Rattle.pef_faults.specs.declared.fault.Fault.{Fault}
use Rattle.pef_faults.specs.declared.fault.Fault.TheVariants.{Script, Listing, Certificate, Prepare}

-- the place of the word of a script that is at fault, and its first byte
abbrev pub script_place : ScriptFault → Option Place
script_place (script.Refused what line word earlier) = Some (record { part = Line; row = line; field = word.number; offset = Some word.from })
script_place script.OutOfMemory = None

-- the place of the line of certificates that is at fault
abbrev pub certificate_place : CertFault → Option Place
certificate_place (cert.BadCertificate line) = Some (record { part = Line; row = line; field = 0; offset = None })
certificate_place cert.OutOfMemory = None

unfoldable pub fault_place : Fault → Option Place
fault_place (Script fault text) = script_place fault
fault_place (Certificate fault) = certificate_place fault
fault_place (Listing fault) = listing.fault_place fault
fault_place (Prepare fault) = prepare.fault_place fault
fault_place _ = None
