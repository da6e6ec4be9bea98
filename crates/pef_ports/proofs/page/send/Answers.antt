-- Bytes that don't fit leave the page as it is.
use Rattle.std.proofs.Common.{◌≡◌, rules}
use Rattle.pef_ports.proofs.page.send.Goals as goal

pub returns : goal.returns
returns g c =
    let same : c.append.new.self.items ≡ c.args.page.now.items = search rules in
    rw (← same) c.send_anew.ensures
