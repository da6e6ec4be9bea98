-- The bytes that it needs, or as many as there are.
use Rattle.std.proofs.Common.{◌∙◌, ap, ap₂, min, take}
use Rattle.std.proofs.lemmas.List.{take_min}
use Rattle.pef_inspect.proofs.needs.own_bytes.Goals as goal

pub returns : goal.returns
returns c =
    let bytes = c.bytes-bytes.result.now in
    c.split_at.ensures.front
    ∙ (ap (λ n. take n bytes) c.min.ensures
    ∙ (take_min c.min-most.result bytes
    ∙ ap₂ take (c.min-most.ensures ∙ ap (λ n. min n 65536) c.needed_by.ensures) c.bytes-bytes.ensures))
