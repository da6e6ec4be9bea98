-- Each turn puts the first of the fixups that are left in its place.
use Rattle.std.proofs.Common.{◌≡◌, get_or, sym, subst, ap, ◌∙◌, arith}
use Rattle.std.specs.List.{fold}
use Rattle.std.proofs.lemmas.List.{drop_more}
use Rattle.pef_reloc.specs.declared.fixup.Base.TheVariants.{Section}
use Rattle.pef_reloc.specs.declared.fixup.Fixup.{Fixup}
use Rattle.pef_script.specs.Text.Contents.{placed}
use Rattle.pef_script.specs.Text.Kept.Sections.{AreApart, fixups_in}
use Rattle.pef_script.proofs.TextProofs.Offsets.{inserted_is}
use Rattle.pef_script.proofs.text.sections.insert_all.Goals as goal

pub loop-fixup-preserved : goal.loop-fixup-preserved
loop-fixup-preserved c =
    let before = fixups_in c.loop-fixup.bases.entries in
    let none : Fixup = record { offset = 0; base = Section 0 } in
    let new : Fixup = get_or c.args.fixups.now c.loop-fixup.fixup-index none in
    let left = drop_more c.args.fixups.now c.loop-fixup.fixup-index none (omega arith) in
    let apart = subst (AreApart before) left c.loop-fixup.invariant.apart in
    let is : fixups_in c.insert.new.self.entries ≡ placed before new = ap fixups_in c.in_ok-insert.ensures.entries ∙ inserted_is c.loop-fixup.bases.entries new.offset new.base apart.0 in
    record {
      apart = rw is apart.1;
      whole = rw is (ap (fold placed before) (sym left) ∙ c.loop-fixup.invariant.whole);
    }
