use Rattle.std.proofs.Common.{◌++◌, ap, sym, ◌∙◌, arith}
use Rattle.std.proofs.lemmas.List.{append-nil, drop_all}
use Rattle.pef_reloc.specs.declared.instr.Instr.TheVariants.{BySectDWithSkip}
use Rattle.pef_reloc.specs.Instrs.{halfword_bytes, spelled}
use Rattle.pef_reloc.proofs.Spellings.{fits-here, spelled-more, spelled-nothing}
use Rattle.pef_reloc.proofs.encoding.encode.Goals as goal

pub spelling-requires : goal.spelling-requires
spelling-requires c = (fits-here _ _ _ c.loop-instr-test.true c.loop-instr.invariant.fits).0

pub loop-instr-preserved : goal.loop-instr-preserved
loop-instr-preserved c =
    let more = c.in_ok-append.ensures ∙ ap (λ words. c.loop-instr.bytes.items ++ halfword_bytes words) c.spelling.ensures in
    record {
      fits = (fits-here _ _ (BySectDWithSkip 0 0) c.loop-instr-test.true c.loop-instr.invariant.fits).1;
      left = spelled-more _ _ (BySectDWithSkip 0 0) _ _ c.loop-instr-test.true more c.loop-instr.invariant.left;
    }

pub returns-clause-bytes : goal.returns-clause-bytes
returns-clause-bytes c =
    let nothing = drop_all c.loop-instr.instr-index c.args.instrs.now (omega arith) in
    sym (append-nil _) ∙ (ap (λ rest. c.loop-instr.bytes.items ++ rest) (sym (ap spelled nothing ∙ spelled-nothing)) ∙ c.loop-instr.invariant.left)
