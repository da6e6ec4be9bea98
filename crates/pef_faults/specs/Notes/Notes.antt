-- What is known of an error beyond its line, and the text that says it: the end of the line with the help, and then
-- lines of its own (docs/USAGE.md, "Output and status").
use Rattle.std.specs.Prelude.{ℕ, List, [], ◌∷◌, ◌++◌, Option, None, Some, codes, decimal}
use Rattle.cfm_closure.specs.Faults as bind
use Rattle.cfm_closure.specs.declared.fault.BindFault.{BindFault}
use Rattle.cfm_closure.specs.declared.fault.BindFault.TheVariants as bind_fault
use Rattle.cfm_closure.specs.declared.versions.Definition.{Definition}
use Rattle.cfm_closure.specs.declared.versions.Implementation.{Implementation}
use Rattle.cfm_prepare.specs.FragmentFaults as fragment
use Rattle.cfm_prepare.specs.declared.fragment_fault.FragmentFault.{FragmentFault}
use Rattle.cfm_prepare.specs.declared.fragment_fault.FragmentFault.TheVariants as fragment_fault
use Rattle.cfm_prepare.specs.declared.fault.PrepareFault.{PrepareFault}
use Rattle.cfm_prepare.specs.declared.fault.PrepareFault.TheVariants as prepare_fault
use Rattle.pef_faults.specs.declared.fault.Fault.{Fault}
use Rattle.pef_faults.specs.declared.fault.Fault.TheVariants as fault
use Rattle.pef_format.specs.declared.place.Place.{Place}
use Rattle.pef_listing.specs.Faults as listing
use Rattle.pef_listing.specs.declared.fault.ListFault.{ListFault}
use Rattle.pef_listing.specs.declared.fault.ListFault.TheVariants as list_fault
use Rattle.pef_ports.specs.declared.ports.FileReason.{FileReason}
use Rattle.pef_ports.specs.declared.ports.FileReason.TheVariants as reason
use Rattle.pef_reloc.specs.Faults as reloc
use Rattle.pef_script.specs.declared.text.fault.ScriptFault.{ScriptFault}
use Rattle.pef_script.specs.declared.text.fault.ScriptFault.TheVariants as script_fault
use Rattle.pef_faults.specs.Notes.Places.{place_text, program_text}
use Rattle.pef_faults.specs.Notes.Scripts.{script_note, script_text}
use Rattle.pef_faults.specs.declared.notes.Explanation.{Explanation}
use Rattle.pef_faults.specs.declared.notes.Explanation.TheVariants as note

-- the note of a place, if there is one
abbrev pub place_note : Option Place → Explanation
place_note (Some place) = note.Place place
place_note None = note.Nothing

abbrev pub script_fault_note : ScriptFault → List ℕ → Explanation
script_fault_note (script_fault.Refused what line word earlier) text = note.Script (script_note what line earlier text)
script_fault_note script_fault.OutOfMemory text = note.Nothing

abbrev pub list_note : ListFault → Explanation
list_note (list_fault.Reloc program) = note.Program program.place program.section (reloc.fault_word program.fault)
list_note f = place_note (listing.fault_place f)

abbrev pub bind_note : BindFault → Explanation
bind_note (bind_fault.ImplementationTooOld f l place needed found) = note.Versions place needed found
bind_note (bind_fault.ImplementationTooNew f l place needed found) = note.Versions place needed found
bind_note f = place_note (bind.fault_place f)

abbrev pub fragment_note : FragmentFault → Explanation
fragment_note (fragment_fault.Reloc f k section place) = note.Program place section (reloc.fault_word k)
fragment_note f = place_note (fragment.fault_place f)

abbrev pub prepare_note : PrepareFault → Explanation
prepare_note (prepare_fault.Bind f) = bind_note f
prepare_note (prepare_fault.Fragment f) = fragment_note f
prepare_note _ = note.Nothing

-- the note of a file that couldn't be read
abbrev pub unread_note : FileReason → Explanation
unread_note reason.Folder = note.Folder
unread_note why = note.File why

-- what is known of an error
unfoldable pub note_of : Fault → Explanation
note_of (fault.Script f text) = script_fault_note f text.now
note_of (fault.Listing f) = list_note f
note_of (fault.Prepare f) = prepare_note f
note_of (fault.Unreadable path why) = unread_note why
note_of (fault.Unwritable path why) = note.File why
note_of _ = note.Nothing

-- the versions that a fragment needs of a library, and those of the library
unfoldable pub versions_text : Definition → Implementation → List ℕ
versions_text needed found =
    codes "\nThe fragment was linked with version " ++ decimal needed.current ++ codes " of the library, and takes version " ++ decimal needed.old_imp
    ++ codes " or newer. The library has version " ++ decimal found.current ++ codes ", and serves fragments that were linked with version " ++ decimal found.old_def ++ codes " or newer.\n"

-- why a file couldn't be read or written
abbrev pub reason_text : FileReason → List ℕ
reason_text reason.Missing = codes "\nThe system says: there is no file at this path, or a link there leads to none.\n"
reason_text reason.Folder = codes "\nThe system says: it is a folder.\n"
reason_text reason.Forbidden = codes "\nThe system says: it may not be read or written by this user.\n"
reason_text reason.Full = codes "\nThe system says: no room is left on the disk.\n"
reason_text reason.NotUtf8 = codes "\nThe path isn't valid UTF-8, and such a path can't be opened.\n"
reason_text reason.TooLong = codes "\nIt is a device or a pipe, and has no end or more than 536,870,912 bytes.\n"
reason_text reason.Other = codes "\n"

-- the text of what is known
abbrev pub note_text : Explanation → List ℕ
note_text note.Nothing = 10 ∷ []
note_text (note.Place place) = codes "\n" ++ place_text place
note_text (note.Program place section word) = program_text place section word
note_text (note.Versions place needed found) = versions_text needed found ++ place_text place
note_text (note.Script n) = script_text n
note_text (note.File why) = reason_text why
note_text note.Folder =
    codes "\nThe system says: it is a folder. `find FOLDER -type f -print0 | pef inspect --files0` inspects the files in a folder.\n"
