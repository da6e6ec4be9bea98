use Rattle.std.proofs.Common.{rules, ◌+◌, arith, length}
use Rattle.pef_cert.proofs.CheckLemmas.{not-fit, registers-few, small-square}
use Rattle.pef_cert.proofs.checking.claim_of.Goals as goal
use Rattle.pef_cert.proofs.checking.claim_of.Goals.{else-kept-classes-via-then-kept-classes+else-rows-fixups, else-kept-classes-via-else-kept-classes}

pub overflow_mul-classes : goal.overflow_mul-classes
overflow_mul-classes c =
    let few = registers-few c.args.fixups.now c.args.registers.now c.requires.fit c.requires.registers in
    let low = small-square (length c.args.registers.now + 1) (omega (arith, few)) in
    search (rules, low)

pub returns-else-kept-classes : goal.returns-else-kept-classes
returns-else-kept-classes c =
    let k = c.kept-kept in
    not-fit k.result.width (length c.args.fixups.now) (length c.args.registers.now + 1) c.rows-rows.result k.result.ends.now k.result.values.now c.args.labels.now.rows k.ensures.rows k.ensures.full c.rows-rows.ensures
    (λ wide count. elim c.else-kept-classes.branch [
      | else-kept-classes-via-then-kept-classes+else-rows-fixups w ↦ w.if-rows-fixups.false count
      | else-kept-classes-via-else-kept-classes w ↦ w.if-kept-classes.false wide
    ])
