-- FILE is read, and its readers decide.
use Rattle.std.proofs.Common.{refl, ap, sym, ◌∙◌}
use Rattle.pef_faults.specs.declared.fault.Fault.TheVariants.{Listing}
use Rattle.pef_listing.specs.Listed.{listed_of}
use Rattle.pef_listing.specs.Listing.{listing_text}
use Rattle.pef_listing.specs.Views.{parts}
use Rattle.pef_tool.specs.Answers.Answers.{answer_done}
use Rattle.pef_tool.specs.Answers.Faults.{fault_answer}
use Rattle.pef_tool.specs.List.{lists, refuses}
use Rattle.pef_tool.proofs.OutcomeLemmas.{list_refuses}
use Rattle.pef_tool.proofs.list.list_file.Goals as goal

pub returns-in-Err : goal.returns-in-Err
returns-in-Err g c =
    let why = c.in-Err.fault in
    (fault_answer why, (refuses why, list_refuses _ c.args.files.now c.read_file.new.files c.args.path.now why c.in-Err.ensures.refused, refl), c.deliver.ensures)

pub returns-in-Ok-read : goal.returns-in-Ok-read
returns-in-Ok-read g c =
    let p = parts c.in-Ok-read.listing in
    let are = ap listed_of (sym c.as_slice.ensures.value) ∙ sym c.in-Ok-read.ensures in
    (answer_done (listing_text p.container p.loader), (lists p, record { bytes = c.in-Ok.bytes.items; read = c.in-Ok.ensures.read; are = are }, refl), c.deliver-in-Ok-read.ensures)

pub returns : goal.returns
returns g c =
    let fault = Listing c.in-Err-read.fault in
    let are = ap listed_of (sym c.as_slice.ensures.value) ∙ sym c.in-Err-read.ensures in
    (fault_answer fault, (refuses fault, record { bytes = c.in-Ok.bytes.items; read = c.in-Ok.ensures.read; are = are }, refl), c.deliver-in-Err-read.ensures)
