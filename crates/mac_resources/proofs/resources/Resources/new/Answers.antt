-- A list without rows, and then the first type.
use Rattle.std.proofs.Common.{refl}
use Rattle.mac_resources.specs.Views.{fork_seen}
use Rattle.mac_resources.proofs.ListLemmas.{left-new}
use Rattle.mac_resources.proofs.resources.Resources.new.Goals as goal

pub returns : goal.returns
returns c = rw (c.len.ensures) (left-new (fork_seen c.args.fork) (record { type_row = 0; kind = record { code = 0; last = 65535; list_offset = 0 } }) refl)
