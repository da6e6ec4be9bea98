-- The prepared fragment is shown, or the reason why it isn't prepared.
use Rattle.std.proofs.Common.{◌≡◌, sym, subst, ap, ◌∙◌}
use Rattle.pef_faults.specs.declared.fault.Fault.TheVariants.{OutOfMemory}
use Rattle.pef_tool.specs.Answers.Answers.{Answer, IsDelivered}
use Rattle.pef_tool.specs.Show.{single_store, refuses}
use Rattle.pef_tool.proofs.ShowLemmas.{root-shown}
use Rattle.pef_tool.proofs.show.show_linked.Goals as goal

pub returns-in_default : goal.returns-in_default
returns-in_default g c = λ script linked. (refuses OutOfMemory, tt, c.deliver.ensures)

pub returns : goal.returns
returns g c = λ script linked.
    let stream = g.W.Sink.stream in
    let store : c.in-Ok.store ≡ single_store c.args.linked.now.bytes = c.in-Ok.ensures ∙ ap single_store c.bytes.ensures in
    let ends = root-shown script c.args.linked.now linked c.deliver_root.ensures.0 (rw (← store) c.deliver_root.ensures.1) in
    let P : Answer → Type 0 = λ answer. IsDelivered (stream c.args.out.now) (stream c.deliver_root.new.out) answer c.deliver_root.result in
    (ends.outcome, ends.ends, subst P (sym ends.said) c.deliver_root.ensures.2)
