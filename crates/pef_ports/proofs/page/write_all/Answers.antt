-- The bytes written so far, and those that the next write takes of the rest.
use Rattle.std.proofs.Common.{[], ◌++◌, take, drop, ap, ◌∙◌, arith}
use Rattle.std.proofs.Math.Seq.{take-add}
use Rattle.std.proofs.lemmas.List.{append-nil, take-append-drop}
use Rattle.pef_ports.proofs.Laws.Sending.{Failed-later, Grows-then, Sends-short}
use Rattle.pef_ports.proofs.page.write_all.Goals as goal

pub returns-in_err-at : goal.returns-in_err-at
returns-in_err-at g c =
    let at = c.loop-at in
    let stream = g.W.Sink.stream in
    let failed = c.in_err-at.ensures in
    let bytes = c.args.bytes.now in
    Sends-short _ c.from_residual.result [] c.from_residual.ensures.1 (record {
      sent = take at.at bytes ++ [];
      left = drop at.at bytes;
      out = Grows-then (stream c.args.out.now).bytes (stream at.out).bytes (stream c.write.new.self).bytes (take at.at bytes) [] at.invariant.sent failed.0;
      whole = ap (λ z. z ++ drop at.at bytes) (append-nil (take at.at bytes)) ∙ take-append-drop at.at bytes;
      failed = Failed-later at.invariant.sound failed.1;
    })

pub loop-at-preserved : goal.loop-at-preserved
loop-at-preserved g c =
    let at = c.loop-at in
    let stream = g.W.Sink.stream in
    let wrote = c.in_ok-at.ensures in
    record {
      inside = omega (arith, wrote.0, c.split_at.ensures.back_len, at.invariant.inside);
      sent = rw (take-add at.at c.in_ok-at.field-0 c.args.bytes.now, ← c.split_at.ensures.back)
          (Grows-then (stream c.args.out.now).bytes (stream at.out).bytes (stream c.write.new.self).bytes (take at.at c.args.bytes.now) _ at.invariant.sent wrote.2);
      sound = wrote.3 ∙ at.invariant.sound;
    }
