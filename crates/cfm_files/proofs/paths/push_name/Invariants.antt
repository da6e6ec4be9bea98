-- The bytes so far, and those of the rest of the name, are all bytes.
use Rattle.std.proofs.Common.{◌≡◌, ◌++◌, drop}
use Rattle.cfm_files.specs.Paths.{file_name}
use Rattle.cfm_files.proofs.paths.push_name.Given as goal

abbrev pub invariant-loop-b : goal.invariant-loop-b
invariant-loop-b l = l.path.items ++ file_name (drop l.b-index l.name) ≡ l.fn.path.items ++ file_name l.name
