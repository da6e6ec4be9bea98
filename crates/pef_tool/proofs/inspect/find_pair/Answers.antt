-- The companion is looked for after the file is read.
use Rattle.std.proofs.Common.{List, ℕ, inl, option_map, refl, subst}
use Rattle.pef_ports.specs.Ports.{FilesPort}
use Rattle.pef_tool.specs.Inspect.{LooksFor}
use Rattle.pef_tool.specs.Kept.Inspecting.{companion_seen, read_seen}
use Rattle.pef_tool.proofs.inspect.find_pair.Goals as goal

pub returns-clause-pair : goal.returns-clause-pair
returns-clause-pair g c =
    let port : FilesPort _ = record { state = g.F.Files.state; reason = g.F.Files.reason; was_read = g.F.Files.was_read; was_written = g.F.Files.was_written } in
    let named = c.read_named-named.result in
    let P : List ℕ → Type 0 = λ (p : List ℕ). LooksFor port c.read_named-named.new.files c.companion_of-companion.new.files p (read_seen named.bytes) (option_map (companion_seen p) c.companion_of-companion.result) in
    record {
      between = c.read_named-named.new.files;
      rest = c.read_named-named.new.input;
      is = inl c.read_named-named.ensures.read;
      looks = (subst P c.read_named-named.ensures.path c.companion_of-companion.ensures, refl);
    }
