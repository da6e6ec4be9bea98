-- One byte more.
use Rattle.std.proofs.Common.{◌∙◌, ◌+◌, ◌++◌, List, ℕ, ap, drop, get_or, sym}
use Rattle.std.proofs.lemmas.List.{append_assoc, at_drop_more}
use Rattle.cfm_files.specs.Paths.{file_byte, file_name}
use Rattle.cfm_files.proofs.paths.push_name.Goals as goal

pub loop-b-preserved : goal.loop-b-preserved
loop-b-preserved c =
    let at = c.loop-b in
    let name = c.args.name.now in
    let rest = file_name (drop (at.b-index + 1) name) in
    let next = at_drop_more file_name name at.b-index 0 c.loop-b-test.true in
    let text = c.as_slice.ensures.value ∙ c.file_byte.ensures in
    ap (λ (path : List ℕ). path ++ rest) (c.in_ok-extend_from_slice.ensures.items ∙ ap (λ (more : List ℕ). at.path.items ++ more) text)
    ∙ append_assoc at.path.items (file_byte (get_or name at.b-index 0)) rest
    ∙ ap (λ (more : List ℕ). at.path.items ++ more) (sym next)
    ∙ at.invariant
