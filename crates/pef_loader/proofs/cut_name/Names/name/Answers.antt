-- A name that begins before the last zero byte is found in its first bytes, and no other is there.
use Rattle.std.proofs.Common.{◌+◌, ◌-◌, ◌∙◌, min, sym, ap}
use Rattle.pef_loader.proofs.CutLemmas.{cut-no-part, cut-part}
use Rattle.pef_loader.proofs.cut_name.Names.name.Goals as goal

pub returns-in_err-front : goal.returns-in_err-front
returns-in_err-front c =
    let bytes = c.args.self.now.cut.bytes.now in
    let n = c.looked_at.ensures ∙ ap (λ left. min left (c.args.most + 1)) (c.saturating_sub-rest.ensures ∙ ap (λ len. len - c.args.from) c.len.ensures) in
    rw c.from_residual.ensures (sym (cut-no-part bytes c.args.from c.args.most (rw n at (rw c.in_err-front.was at c.part.ensures))))

pub returns : goal.returns
returns c =
    let self = c.args.self.now in
    let n = c.looked_at.ensures ∙ ap (λ left. min left (c.args.most + 1)) (c.saturating_sub-rest.ensures ∙ ap (λ len. len - c.args.from) c.len.ensures) in
    rw c.front.ensures (cut-part self.cut.bytes.now c.in_ok-front.front.bytes.now c.args.from c.args.most self.end self.ended c.if-from-self.false (rw n at (rw c.in_ok-front.was at c.part.ensures)))
