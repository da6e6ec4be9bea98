-- One more row is there.
use Rattle.std.proofs.Common.{Bool, ◌≡◌, ◌∙◌, ◌+◌, ◌++◌, ◌∷◌, [], Some, append_assoc, drop, map, slice_get, ap, sym}
use Rattle.std.proofs.lemmas.List.{map-append}
use Rattle.pef_names.specs.declared.name_key.NameKey.{NameKey}
use Rattle.pef_words.proofs.Laws.Lists.{drop-here}
use Rattle.cfm_stubs.specs.Kept.Tables.{lacking_entry, lacking_named}
use Rattle.cfm_stubs.specs.Views.{lacking_seen}
use Rattle.cfm_stubs.proofs.missing.rows.Goals as goal

pub loop-k-preserved : goal.loop-k-preserved
loop-k-preserved c =
    let es = c.args.weak.now.entries in
    let k = c.loop-k.k in
    let e : NameKey × Bool = (c.in-Some.name.now, c.in-Some.is_weak.now) in
    let old = map lacking_seen c.loop-k.rows.items in
    let rest = lacking_named (drop (k + 1) es) in
    let there : slice_get es k ≡ Some e = sym c.in-Some.ensures.entry in
    ap (λ rows. map lacking_seen rows ++ rest) c.in_ok-push.ensures.items
    ∙ ap (λ z. z ++ rest) (map-append lacking_seen c.loop-k.rows.items _)
    ∙ append_assoc old (lacking_entry e ∷ []) rest
    ∙ ap (λ z. old ++ lacking_named z) (sym (drop-here es k e there))
    ∙ c.loop-k.invariant
