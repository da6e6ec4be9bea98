-- A container that was linked from a file and written.
use Rattle.std.proofs.Common.{◌≡◌, List, ℕ, Result, subst}
use Rattle.pef_ports.specs.Ports.{FilesPort, Writes}
use Rattle.pef_ports.specs.declared.ports.FileFault.{FileFault}
use Rattle.pef_tool.specs.Link.{LinksFile, WritesLinked}
use Rattle.pef_write.specs.Linked.{LinkedContainer}

pub written : {F : Type 0} {port : FilesPort F} {before between after : F} {path out bytes : List ℕ} {l : LinkedContainer} {answer : Result (Unit {0}) FileFault}
    → LinksFile port before between path l → bytes ≡ l.bytes → Writes port between after out bytes answer → WritesLinked port before after path out l answer
written {F} {port} {before} {between} {after} {path} {out} {bytes} {l} {answer} links is wrote =
    let W : List ℕ → Type 0 = λ b. Writes port between after out b answer in
    record { between = between; links = links; written = subst W is wrote }
