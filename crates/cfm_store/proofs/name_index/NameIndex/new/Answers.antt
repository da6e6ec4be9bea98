-- The export before them is put over the later ones with its name.
use Rattle.std.proofs.Common.{◌≡◌, ◌+◌, ◌-◌, ℕ, Some, length, nat_cmp, refl, sym, ap, ◌∙◌, subst, arith}
use Rattle.std.specs.Ordering.{ord_max}
use Rattle.pef_format.specs.Exports.{export_seen, value_of}
use Rattle.pef_loader.specs.Views.{loaded}
use Rattle.cfm_store.specs.Kept.NameIndexes.{IsIndexFrom}
use Rattle.cfm_store.specs.Kept.Places.{SetsPlace}
use Rattle.cfm_store.proofs.IndexLemmas.{both-below, index-more}
use Rattle.cfm_store.proofs.name_index.NameIndex.new.Goals as goal

pub loop-i-preserved : goal.loop-i-preserved
loop-i-preserved c =
    let l = loaded c.args.loader.now in
    let x = export_seen c.in-Some.export in
    let i : ℕ = c.loop-i.i - 1 in
    let long : ℕ = length c.in-Some.export.name.now in
    let most : ℕ = ord_max nat_cmp c.loop-i.longest long in
    let before : i + 1 ≡ c.loop-i.i = omega (arith, c.loop-i-test.true) in
    let under = (c.in-Some.ensures.there).0 refl in
    let sets : SetsPlace c.loop-i.values.entries x.name (Some (value_of x.fields.section x.fields.value)) c.insert.new.self.entries = record {
      own = c.in_ok-insert.ensures.updates.1 ∙ ap Some c.value.ensures;
      others = λ other apart. c.in_ok-insert.ensures.updates.2 (record { bytes = record { ref_ptr = (0, 0); now = other } }) apart;
    } in
    let above = both-below c.loop-i.longest long in
    let are = subst (λ n. IsIndexFrom l n c.loop-i.values.entries c.loop-i.longest) (sym before) c.loop-i.invariant in
    rw c.max-longest.ensures (index-more l i x c.loop-i.values.entries c.insert.new.self.entries c.loop-i.longest most under (sym c.in-Some.ensures.value) sets above.0 above.1 are)
