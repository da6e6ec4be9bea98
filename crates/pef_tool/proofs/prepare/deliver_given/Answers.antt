-- The fragments are gathered, and then prepared.
use Rattle.std.proofs.Common.{◌∙◌, List, ℕ, Option, inr, map, refl, sym, ap, subst}
use Rattle.pef_faults.specs.declared.fault.Fault.{Fault}
use Rattle.pef_gather.specs.Gathered.{gathered}
use Rattle.pef_gather.specs.Seen.{FailsAs, found_seen, given_seen}
use Rattle.pef_gather.specs.declared.files.Found.{Found}
use Rattle.pef_ports.specs.Ports.{FilesPort}
use Rattle.pef_request.specs.Requests.{preparation_of}
use Rattle.pef_tool.specs.Answers.Faults.{fault_answer}
use Rattle.pef_tool.specs.Kept.Supplying.{FoundEnds}
use Rattle.pef_tool.specs.Prepare.{RefusesSupply}
use Rattle.pef_tool.proofs.SupplyLemmas.{found-ends, gather-refuses}
use Rattle.pef_tool.proofs.prepare.deliver_given.Goals as goal

pub returns-in-Err : goal.returns-in-Err
returns-in-Err g c =
    let given = map given_seen c.args.given.now in
    let asked = preparation_of c.args.asked.now in
    let why = c.gather_fault.result in
    let P : Option (List ℕ) → Type 0 = λ root. FailsAs c.in-Err.fault (gathered given root) in
    let Q : Fault → Type 0 = λ f. RefusesSupply given asked.root asked.stubs f in
    let refused = subst Q (sym c.gather_fault.ensures) (gather-refuses given asked c.in-Err.fault (subst P c.bytes_of.ensures c.in-Err.ensures)) in
    (fault_answer why, inr (why, refused, refl, refl), c.deliver.ensures)

pub returns : goal.returns
returns g c =
    let port : FilesPort _ = record { state = g.F.Files.state; reason = g.F.Files.reason; was_read = g.F.Files.was_read; was_written = g.F.Files.was_written } in
    let given = map given_seen c.args.given.now in
    let asked = preparation_of c.args.asked.now in
    let answer = c.deliver_found.ensures.0 in
    let are = ap (gathered given) (sym c.bytes_of.ensures) ∙ c.in-Ok.ensures in
    let P : List Found → Type 0 = λ fs. FoundEnds port c.args.files.now c.deliver_found.new.files asked (map found_seen fs) answer in
    (answer, found-ends port c.args.files.now c.deliver_found.new.files asked given (map found_seen c.in-Ok.found.items) answer are (subst P c.as_slice.ensures.value c.deliver_found.ensures.1), c.deliver_found.ensures.2)
