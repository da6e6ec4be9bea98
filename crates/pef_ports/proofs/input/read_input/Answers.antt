-- If an allocation fails, the bytes read so far are within the limit.
use Rattle.std.proofs.Common.{◌++◌, ◌∙◌, take, arith, length-append, length-take}
use Rattle.std.proofs.lemmas.Result.{err_from_is_err_and}
use Rattle.pef_ports.proofs.InputLemmas.{Begins-then}
use Rattle.pef_ports.proofs.input.read_input.Goals as goal

pub returns-in_err-extend_from_slice : goal.returns-in_err-extend_from_slice
returns-in_err-extend_from_slice g c =
    let stream = g.R.Source.stream in
    let at = c.loop-bytes in
    let came = c.in_ok-count.ensures in
    let next = take c.in_ok-count.count c.read_chunk.new.chunk in
    let error = err_from_is_err_and c.from_residual-in_err-extend_from_slice.result c.from_residual-in_err-extend_from_slice.ensures.1 in
    rw (error.1, error.2) (
      (
        at.bytes.items ++ next,
        Begins-then (stream c.args.input.now).bytes (stream at.input).bytes (stream c.read_chunk.new.input).bytes at.bytes.items next at.invariant.begins came.begins,
        omega (arith, length-append at.bytes.items next, length-take c.in_ok-count.count c.read_chunk.new.chunk, came.fits, came.inside, at.invariant.short, c.len.ensures),
      ),
      came.sound ∙ at.invariant.sound,
    )
