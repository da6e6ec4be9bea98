-- Each turn puts the first of the fixups that are left in its place.
use Rattle.std.proofs.Common.{◌≡◌, get_or, sym, subst, ap, ◌∙◌, arith}
use Rattle.std.specs.List.{fold}
use Rattle.std.proofs.lemmas.List.{drop_more}
use Rattle.pef_reloc.specs.declared.fixup.Base.TheVariants.{Section}
use Rattle.pef_reloc.specs.declared.fixup.Fixup.{Fixup}
use Rattle.pef_script.specs.Text.Contents.{placed}
use Rattle.pef_script.specs.Text.Kept.Sections.{AreApart}
use Rattle.pef_script.proofs.text.sections.FixupsSoFar.add_all.Goals as goal

pub add-requires : goal.add-requires
add-requires c =
    let none : Fixup = record { offset = 0; base = Section 0 } in
    let left = drop_more c.args.fixups.now c.loop-fixup.fixup-index none (omega arith) in
    (subst (AreApart c.loop-fixup.self) left c.loop-fixup.invariant.apart).0

pub loop-fixup-preserved : goal.loop-fixup-preserved
loop-fixup-preserved c =
    let none : Fixup = record { offset = 0; base = Section 0 } in
    let new : Fixup = get_or c.args.fixups.now c.loop-fixup.fixup-index none in
    let left = drop_more c.args.fixups.now c.loop-fixup.fixup-index none (omega arith) in
    let apart = subst (AreApart c.loop-fixup.self) left c.loop-fixup.invariant.apart in
    let is : c.add.new.self ≡ placed c.loop-fixup.self new = c.in_ok-add.ensures in
    record {
      apart = rw is apart.1;
      whole = rw is (ap (fold placed c.loop-fixup.self) (sym left) ∙ c.loop-fixup.invariant.whole);
    }
