-- The companion is looked for, and the container is found and written, or it is said why there is none.
use Rattle.std.proofs.Common.{Ok, Err, option_map, refl, sym}
use Rattle.pef_tool.specs.Answers.Faults.{fault_answer}
use Rattle.pef_tool.specs.Kept.Inspecting.{companion_seen}
use Rattle.pef_tool.proofs.extract.extract_read.Goals as goal

pub returns-in-Ok : goal.returns-in-Ok
returns-in-Ok g c =
    let path = c.args.asked.path.now in
    (c.write_container.ensures.0, (Ok c.in-Ok.container.now, c.companion_for-companion.new.files, record { companion = option_map (companion_seen path) c.companion_for-companion.result; looked = c.companion_for-companion.ensures; is = sym (c.in-Ok.ensures path) }, c.write_container.ensures.1), c.write_container.ensures.2)

pub returns : goal.returns
returns g c =
    let path = c.args.asked.path.now in
    (fault_answer c.in-Err.fault, (Err c.in-Err.fault, c.companion_for-companion.new.files, record { companion = option_map (companion_seen path) c.companion_for-companion.result; looked = c.companion_for-companion.ensures; is = sym (c.in-Err.ensures path) }, (refl, refl)), c.deliver.ensures)
