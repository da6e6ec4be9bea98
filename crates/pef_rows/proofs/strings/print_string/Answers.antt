-- A name of bytes that need no escape is its own text.
use Rattle.std.proofs.Common.{◌≡◌, true, rules}
use Rattle.pef_rows.specs.Kept.Plain.{are_plain}
use Rattle.pef_rows.proofs.StringLemmas.{plain_name}
use Rattle.pef_rows.proofs.strings.print_string.Goals as goal

pub returns-then-is_plain_string : goal.returns-then-is_plain_string
returns-then-is_plain_string g c =
    let plain : are_plain c.args.name.now ≡ true = search rules in
    rw (plain_name c.args.name.now plain) c.send.ensures
