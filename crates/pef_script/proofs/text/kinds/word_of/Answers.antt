-- A word that isn't the next one is among those after it.
use Rattle.std.proofs.Common.{[], Bor, List, ℕ, sym, ◌∙◌, arith}
use Rattle.pef_script.proofs.TextProofs.TableLemmas.{paired_more}
use Rattle.pef_script.proofs.text.kinds.word_of.Goals as goal

pub loop-place-preserved : goal.loop-place-preserved
loop-place-preserved g c =
    let none : Bor (List ℕ) = record { ref_ptr = (0, 0); now = [] } in
    sym (paired_more c.args.words.now c.args.values.now c.loop-place.place none c.args.word.now c.requires (omega arith) (sym c.spells.ensures ∙ c.if-spells.false)) ∙ c.loop-place.invariant
