-- The file is read, and then its companion.
use Rattle.std.proofs.Common.{List, ℕ, inl, inr, option_map, refl, subst, sym}
use Rattle.pef_ports.specs.Ports.{FilesPort}
use Rattle.pef_tool.specs.Companions.{LooksIf, may_have_companion}
use Rattle.pef_tool.specs.Kept.Inspecting.{companion_seen}
use Rattle.pef_tool.proofs.gathering.read_one.Goals as goal

pub returns-in-Err-clause-refused : goal.returns-in-Err-clause-refused
returns-in-Err-clause-refused g c = inl c.in-Err.ensures.refused

pub returns-in-Ok-resources_in-clause-read : goal.returns-in-Ok-resources_in-clause-read
returns-in-Ok-resources_in-clause-read g c =
    let port : FilesPort _ = record { state = g.F.Files.state; reason = g.F.Files.reason; was_read = g.F.Files.was_read; was_written = g.F.Files.was_written } in
    let path = c.args.wanted.path.now in
    let companion = option_map (companion_seen path) c.companion_beside-companion.result in
    let P : List ℕ → Type 0 = λ bytes. LooksIf (may_have_companion path bytes) port c.read_file.new.files c.companion_beside-companion.new.files path companion in
    record {
      bytes = c.in-Ok.bytes.items;
      resources = option_map (λ bytes. bytes.items) c.in-Ok-resources_in.resources;
      read = record {
        between = c.read_file.new.files;
        companion = companion;
        read = c.in-Ok.ensures.read;
        looked = subst P c.as_slice.ensures.value c.companion_beside-companion.ensures;
        are = sym (c.in-Ok-resources_in.ensures path);
      };
      is = refl;
    }

pub returns-clause-refused : goal.returns-clause-refused
returns-clause-refused g c =
    let port : FilesPort _ = record { state = g.F.Files.state; reason = g.F.Files.reason; was_read = g.F.Files.was_read; was_written = g.F.Files.was_written } in
    let path = c.args.wanted.path.now in
    let companion = option_map (companion_seen path) c.companion_beside-companion.result in
    let P : List ℕ → Type 0 = λ bytes. LooksIf (may_have_companion path bytes) port c.read_file.new.files c.companion_beside-companion.new.files path companion in
    inr (
      c.in-Ok.bytes.items,
      record {
        between = c.read_file.new.files;
        companion = companion;
        read = c.in-Ok.ensures.read;
        looked = subst P c.as_slice.ensures.value c.companion_beside-companion.ensures;
        are = sym (c.in-Err-resources_in.ensures path);
      },
    )
