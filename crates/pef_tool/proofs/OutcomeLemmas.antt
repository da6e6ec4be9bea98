-- How a command ends, by its steps before.
use Rattle.std.proofs.Common.{◌≡◌, List, [], ℕ, Option, None, Some, Ok, refl, sym, ◌∙◌, inl, inr, subst, arith}
use Rattle.pef_ports.specs.Ports.{Begins, FilesPort, Reads, Stream}
use Rattle.pef_faults.specs.declared.fault.Fault.{Fault}
use Rattle.pef_faults.specs.declared.fault.Fault.TheVariants as fault
use Rattle.pef_script.specs.Text.Grammar.{script_of}
use Rattle.pef_script.specs.Text.Reads.{FailsAs}
use Rattle.pef_script.specs.declared.text.fault.ScriptFault.{ScriptFault}
use Rattle.pef_request.specs.Requests.{Asked, check, distances, extract, inspect, inspect_listed, inspect_pair, link, list, load, prepare, show, stubs, version}
use Rattle.pef_tool.specs.Answers.Faults.{fault_answer}
use Rattle.pef_tool.specs.Load as load
use Rattle.pef_tool.specs.Show as show
use Rattle.pef_tool.specs.Check as check
use Rattle.pef_tool.specs.Distances as distances
use Rattle.pef_tool.specs.Extract as extract
use Rattle.pef_tool.specs.Link as link
use Rattle.pef_tool.specs.Kept.Linking.{RefusesText}
use Rattle.pef_tool.specs.Kept.Loading.{StopsReading}
use Rattle.pef_tool.specs.Reading.{StopsFile}
use Rattle.pef_tool.specs.List as list
use Rattle.pef_tool.specs.Run.{RunAnswers}
use Rattle.pef_tool.proofs.SupplyLemmas.{prepare-lacks}

-- a text that isn't a script, if it is another list of the same bytes
pub fails_same : (f : ScriptFault) (text read : List ℕ) → text ≡ read → FailsAs f (script_of text) → FailsAs f (script_of read)
fails_same f text read same fails = subst (λ (t : List ℕ). FailsAs f (script_of t)) same fails

module _ {F : Type 0} (port : FilesPort F) (before after : F) where
  -- a script that isn't linked: its file isn't read
  pub unread_linking : (script : List ℕ) (why : Fault) → StopsFile port before after script why → link.RefusesLinking port before after script why
  unread_linking script (fault.Unreadable told reason) stops = stops
  unread_linking script fault.OutOfMemory stops = inr (inl stops)
  unread_linking script (fault.Unwritable told reason) stops = absurd stops
  unread_linking script (fault.Script f told) stops = absurd stops
  unread_linking script (fault.Listing f) stops = absurd stops
  unread_linking script (fault.Certificate f) stops = absurd stops
  unread_linking script fault.SectionsDiffer stops = absurd stops
  unread_linking script (fault.Input f) stops = absurd stops
  unread_linking script (fault.Prepare f) stops = absurd stops
  unread_linking script (fault.Fragment f) stops = absurd stops
  unread_linking script (fault.Untold path why) stops = absurd stops
  unread_linking script fault.StoreFull stops = absurd stops
  unread_linking script (fault.Stub f) stops = absurd stops

  -- .. or its text isn't linked
  pub unlinked : (script read text : List ℕ) (why : Fault) → Reads port before after script (Ok read) → text ≡ read → RefusesText text why → link.RefusesLinking port before after script why
  unlinked script read text (fault.Script f told) reads same fails = record {
    read = subst (λ (t : List ℕ). Reads port before after script (Ok t)) (sym (fails.0 ∙ same)) reads;
    refused = fails_same f text told.now (sym fails.0) fails.1;
  }
  unlinked script read text fault.OutOfMemory reads same fails = inr (inr (read, reads))
  unlinked script read text (fault.Unreadable told reason) reads same fails = absurd fails
  unlinked script read text (fault.Unwritable told reason) reads same fails = absurd fails
  unlinked script read text (fault.Listing f) reads same fails = absurd fails
  unlinked script read text (fault.Certificate f) reads same fails = absurd fails
  unlinked script read text fault.SectionsDiffer reads same fails = absurd fails
  unlinked script read text (fault.Input f) reads same fails = absurd fails
  unlinked script read text (fault.Prepare f) reads same fails = absurd fails
  unlinked script read text (fault.Fragment f) reads same fails = absurd fails
  unlinked script read text (fault.Untold path why) reads same fails = absurd fails
  unlinked script read text fault.StoreFull reads same fails = absurd fails
  unlinked script read text (fault.Stub f) reads same fails = absurd fails

  -- for `link`, an allocation may also fail later
  pub refuses_link : (script out : List ℕ) (why : Fault) → link.RefusesLinking port before after script why → link.LinkRefuses port before after script out why
  refuses_link script out (fault.Script f told) refuses = refuses
  refuses_link script out fault.OutOfMemory refuses = inl refuses
  refuses_link script out (fault.Unreadable told reason) refuses = refuses
  refuses_link script out (fault.Unwritable told reason) refuses = absurd refuses
  refuses_link script out (fault.Listing f) refuses = absurd refuses
  refuses_link script out (fault.Certificate f) refuses = absurd refuses
  refuses_link script out fault.SectionsDiffer refuses = absurd refuses
  refuses_link script out (fault.Input f) refuses = absurd refuses
  refuses_link script out (fault.Prepare f) refuses = absurd refuses
  refuses_link script out (fault.Fragment f) refuses = absurd refuses
  refuses_link script out (fault.Untold path why) refuses = absurd refuses
  refuses_link script out fault.StoreFull refuses = absurd refuses
  refuses_link script out (fault.Stub f) refuses = absurd refuses

  -- a file that isn't read ends `list`
  pub list_refuses : (path : List ℕ) (why : Fault) → StopsFile port before after path why → list.ListRefuses port before after path why
  list_refuses path (fault.Unreadable told reason) stops = stops
  list_refuses path fault.OutOfMemory stops = inr stops
  list_refuses path (fault.Unwritable told reason) stops = absurd stops
  list_refuses path (fault.Script f told) stops = absurd stops
  list_refuses path (fault.Listing f) stops = absurd stops
  list_refuses path (fault.Certificate f) stops = absurd stops
  list_refuses path fault.SectionsDiffer stops = absurd stops
  list_refuses path (fault.Input f) stops = absurd stops
  list_refuses path (fault.Prepare f) stops = absurd stops
  list_refuses path (fault.Fragment f) stops = absurd stops
  list_refuses path (fault.Untold file why) stops = absurd stops
  list_refuses path fault.StoreFull stops = absurd stops
  list_refuses path (fault.Stub f) stops = absurd stops

  -- and `extract`
  pub extract_refuses : (path name out : List ℕ) (why : Fault) → StopsFile port before after path why → extract.ExtractRefuses port before after path name out why
  extract_refuses path name out (fault.Unreadable told reason) stops = stops
  extract_refuses path name out fault.OutOfMemory stops = inr (inl stops)
  extract_refuses path name out (fault.Unwritable told reason) stops = absurd stops
  extract_refuses path name out (fault.Script f told) stops = absurd stops
  extract_refuses path name out (fault.Listing f) stops = absurd stops
  extract_refuses path name out (fault.Certificate f) stops = absurd stops
  extract_refuses path name out fault.SectionsDiffer stops = absurd stops
  extract_refuses path name out (fault.Input f) stops = absurd stops
  extract_refuses path name out (fault.Prepare f) stops = absurd stops
  extract_refuses path name out (fault.Fragment f) stops = absurd stops
  extract_refuses path name out (fault.Untold file why) stops = absurd stops
  extract_refuses path name out fault.StoreFull stops = absurd stops
  extract_refuses path name out (fault.Stub f) stops = absurd stops

  -- and `load`
  pub load_refuses : (named : List (List ℕ × List ℕ)) (why : Fault) → StopsReading port before after named why → load.LoadRefuses port before after named why
  load_refuses named (fault.Unreadable told reason) stops = stops
  load_refuses named fault.OutOfMemory stops = stops
  load_refuses named (fault.Unwritable told reason) stops = absurd stops
  load_refuses named (fault.Script f told) stops = absurd stops
  load_refuses named (fault.Listing f) stops = absurd stops
  load_refuses named (fault.Certificate f) stops = absurd stops
  load_refuses named fault.SectionsDiffer stops = absurd stops
  load_refuses named (fault.Input f) stops = absurd stops
  load_refuses named (fault.Prepare f) stops = absurd stops
  load_refuses named (fault.Fragment f) stops = absurd stops
  load_refuses named (fault.Untold path why) stops = absurd stops
  load_refuses named fault.StoreFull stops = absurd stops
  load_refuses named (fault.Stub f) stops = absurd stops

  -- and `check`, for each of its two files
  pub check_refuses : (script cert : List ℕ) (why : Fault) → StopsFile port before after script why → check.RefusesFiles port before after script cert why
  check_refuses script cert (fault.Unreadable told reason) stops = (inl (stops.0, stops.1), stops.2)
  check_refuses script cert fault.OutOfMemory stops = inr (inl stops)
  check_refuses script cert (fault.Unwritable told reason) stops = absurd stops
  check_refuses script cert (fault.Script f told) stops = absurd stops
  check_refuses script cert (fault.Listing f) stops = absurd stops
  check_refuses script cert (fault.Certificate f) stops = absurd stops
  check_refuses script cert fault.SectionsDiffer stops = absurd stops
  check_refuses script cert (fault.Input f) stops = absurd stops
  check_refuses script cert (fault.Prepare f) stops = absurd stops
  check_refuses script cert (fault.Fragment f) stops = absurd stops
  check_refuses script cert (fault.Untold path why) stops = absurd stops
  check_refuses script cert fault.StoreFull stops = absurd stops
  check_refuses script cert (fault.Stub f) stops = absurd stops

  pub check_refuses_later : (between : F) (script cert text : List ℕ) (why : Fault) → Reads port before between script (Ok text) → StopsFile port between after cert why → check.RefusesFiles port before after script cert why
  check_refuses_later between script cert text (fault.Unreadable told reason) first stops = (inr (stops.0, (text, record { between = between; first = first; second = stops.1 })), stops.2)
  check_refuses_later between script cert text fault.OutOfMemory first stops = inr (inr (text, record { between = between; first = first; second = stops }))
  check_refuses_later between script cert text (fault.Unwritable told reason) first stops = absurd stops
  check_refuses_later between script cert text (fault.Script f told) first stops = absurd stops
  check_refuses_later between script cert text (fault.Listing f) first stops = absurd stops
  check_refuses_later between script cert text (fault.Certificate f) first stops = absurd stops
  check_refuses_later between script cert text fault.SectionsDiffer first stops = absurd stops
  check_refuses_later between script cert text (fault.Input f) first stops = absurd stops
  check_refuses_later between script cert text (fault.Prepare f) first stops = absurd stops
  check_refuses_later between script cert text (fault.Fragment f) first stops = absurd stops
  check_refuses_later between script cert text (fault.Untold path why) first stops = absurd stops
  check_refuses_later between script cert text fault.StoreFull first stops = absurd stops
  check_refuses_later between script cert text (fault.Stub f) first stops = absurd stops

-- nothing of an input was read
nothing_read : (told : Option (List ℕ)) → Begins told told []
nothing_read None = tt
nothing_read (Some bytes) = (bytes, refl, refl)

-- an allocation may fail before a command does anything
pub lacks_memory : {F R : Type 0} (port : FilesPort F) (stream : R → Stream) (asked : Option Asked) (files : F) (input : R)
    → RunAnswers port stream asked files files input input (fault_answer fault.OutOfMemory)
lacks_memory port stream None files input = (inr refl, refl, refl)
lacks_memory port stream (Some show) files input = ((show.refuses fault.OutOfMemory, (([], nothing_read _, omega arith), refl), refl), refl)
lacks_memory port stream (Some (link script out)) files input = ((link.refuses fault.OutOfMemory, inl (inl refl), refl), refl)
lacks_memory port stream (Some (list path)) files input = ((list.refuses fault.OutOfMemory, inl refl, refl), refl)
lacks_memory port stream (Some (check script cert)) files input = ((check.refuses fault.OutOfMemory, inl refl, refl), refl)
lacks_memory port stream (Some (load named)) files input = ((load.refuses fault.OutOfMemory, inl (0, [], refl), refl), refl)
lacks_memory port stream (Some (distances script)) files input = ((distances.refuses fault.OutOfMemory, inl refl, refl), refl)
lacks_memory port stream (Some version) files input = (inr refl, refl, refl)
lacks_memory port stream (Some (extract path name out)) files input = ((extract.refuses fault.OutOfMemory, inl refl, refl), refl)
lacks_memory port stream (Some (inspect json paths)) files input = inr (refl, refl, refl)
lacks_memory port stream (Some (inspect_listed json)) files input = inr (inr (refl, refl, refl))
lacks_memory port stream (Some (inspect_pair json resources path)) files input = inr (refl, refl, refl)
lacks_memory port stream (Some (prepare asked)) files input = (prepare-lacks port files asked, refl)
lacks_memory port stream (Some (stubs asked)) files input = (inr (fault.OutOfMemory, inr (refl, (0, [], refl)), refl), refl)
