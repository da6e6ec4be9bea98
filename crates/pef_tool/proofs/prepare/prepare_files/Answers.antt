-- The files are read, and their fragments are prepared.
use Rattle.std.proofs.Common.{◌∙◌, List, [], map, refl, ap, subst, inr}
use Rattle.pef_faults.specs.declared.fault.Fault.TheVariants.{OutOfMemory}
use Rattle.pef_gather.specs.Gathered.{Given}
use Rattle.pef_gather.specs.Seen.{given_seen}
use Rattle.pef_gather.specs.declared.files.GivenFile.{GivenFile}
use Rattle.pef_ports.specs.Ports.{FilesPort}
use Rattle.pef_request.specs.Requests.{preparation_of}
use Rattle.pef_tool.specs.Answers.Faults.{fault_answer}
use Rattle.pef_tool.specs.Kept.Gathering.{read_seen, wanted_seen}
use Rattle.pef_tool.specs.Prepare.{PreparesGiven}
use Rattle.pef_tool.specs.declared.gathering.ReadFile.{ReadFile}
use Rattle.pef_tool.specs.declared.gathering.WantedFile.{WantedFile}
use Rattle.pef_tool.proofs.GatheringLemmas.{all-lack}
use Rattle.pef_tool.proofs.SupplyLemmas.{prepare-done, prepare-stops}
use Rattle.pef_tool.proofs.prepare.prepare_files.Goals as goal

pub returns-in_default : goal.returns-in_default
returns-in_default g c = (fault_answer OutOfMemory, inr (OutOfMemory, inr (refl, (0, [], refl)), refl), c.deliver.ensures)

pub returns-in-Err : goal.returns-in-Err
returns-in-Err g c =
    let port : FilesPort _ = record { state = g.F.Files.state; reason = g.F.Files.reason; was_read = g.F.Files.was_read; was_written = g.F.Files.was_written } in
    let why = c.in-Err.fault in
    let wanted = ap (λ (ws : List WantedFile). map wanted_seen ws) c.as_slice.ensures.value ∙ c.in-Ok.ensures in
    (fault_answer why, prepare-stops port c.args.files.now c.read_wanted.new.files (preparation_of c.args.asked.now) _ why wanted c.in-Err.ensures.refused, c.deliver-in-Err.ensures)

pub returns-in_default-given_files : goal.returns-in_default-given_files
returns-in_default-given_files g c =
    let port : FilesPort _ = record { state = g.F.Files.state; reason = g.F.Files.reason; was_read = g.F.Files.was_read; was_written = g.F.Files.was_written } in
    let wanted = ap (λ (ws : List WantedFile). map wanted_seen ws) c.as_slice.ensures.value ∙ c.in-Ok.ensures in
    let lacks = all-lack port c.args.files.now c.read_wanted.new.files _ _ c.in-Ok-read_wanted.ensures.read in
    (fault_answer OutOfMemory, prepare-stops port c.args.files.now c.read_wanted.new.files (preparation_of c.args.asked.now) _ OutOfMemory wanted lacks, c.deliver-in_default-given_files.ensures)

pub returns : goal.returns
returns g c =
    let port : FilesPort _ = record { state = g.F.Files.state; reason = g.F.Files.reason; was_read = g.F.Files.was_read; was_written = g.F.Files.was_written } in
    let asked = preparation_of c.args.asked.now in
    let answer = c.deliver_given.ensures.0 in
    let wanted = ap (λ (ws : List WantedFile). map wanted_seen ws) c.as_slice.ensures.value ∙ c.in-Ok.ensures in
    let given = ap (λ (gs : List GivenFile). map given_seen gs) c.as_slice-3.ensures.value ∙ c.in-Ok-given_files.ensures ∙ ap (λ (rs : List ReadFile). map read_seen rs) c.as_slice-2.ensures.value in
    let P : List Given → Type 0 = λ gs. PreparesGiven port c.read_wanted.new.files c.deliver_given.new.files asked gs answer in
    (answer, prepare-done port c.args.files.now c.deliver_given.new.files c.read_wanted.new.files asked _ _ answer wanted c.in-Ok-read_wanted.ensures.read (subst P given c.deliver_given.ensures.1), c.deliver_given.ensures.2)
