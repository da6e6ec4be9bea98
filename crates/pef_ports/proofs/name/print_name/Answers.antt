-- A name of plain bytes is its own text.
use Rattle.std.proofs.Common.{◌≡◌, true, rules}
use Rattle.pef_ports.specs.Kept.Plain.{are_plain}
use Rattle.pef_ports.proofs.NameLemmas.{plain_name}
use Rattle.pef_ports.proofs.name.print_name.Goals as goal

pub returns-then-is_plain_name : goal.returns-then-is_plain_name
returns-then-is_plain_name g c =
    let plain : are_plain c.args.name.now ≡ true = search rules in
    rw (plain_name c.args.name.now plain) c.send.ensures
