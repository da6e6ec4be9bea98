-- An entry that doesn't fit decides, and after one that fits those that are left.
use Rattle.std.proofs.Common.{◌≡◌, ◌∙◌, ◌+◌, ◌-◌, ◌<◌, true, false, ap, sym, arith}
use Rattle.std.specs.Prelude.{◌&&◌}
use Rattle.pef_loader.specs.Loader.{library_of}
use Rattle.pef_loader.specs.Views.{loaded}
use Rattle.mac_fragments.specs.Choices.{suits_entry, suits_from}
use Rattle.mac_fragments.specs.Kept.Ranks.{read_seen}
use Rattle.mac_fragments.proofs.RankLemmas.{suits-next}
use Rattle.mac_fragments.proofs.rank.suits_entries.Goals as goal

pub returns-then-not-suits_entry : goal.returns-then-not-suits_entry
returns-then-not-suits_entry c =
    let f = read_seen c.args.fragment in
    let l = loaded c.args.loader.now in
    let n = l.header.library_count in
    let k = c.loop-k.k in
    let under : k < n = omega (arith, c.libraries-k-end.ensures.count) in
    let entry : suits_entry f (library_of l k) ≡ false = ap (suits_entry f) (sym c.library.ensures.value) ∙ sym c.if-not-suits_entry.ensures in
    sym (suits-next f l n k under ∙ ap (λ b. b && suits_from f l (k + 1) (n - (k + 1))) entry) ∙ c.loop-k.invariant

pub loop-k-preserved : goal.loop-k-preserved
loop-k-preserved c =
    let f = read_seen c.args.fragment in
    let l = loaded c.args.loader.now in
    let n = l.header.library_count in
    let k = c.loop-k.k in
    let under : k < n = omega (arith, c.libraries-k-end.ensures.count) in
    let entry : suits_entry f (library_of l k) ≡ true = ap (suits_entry f) (sym c.library.ensures.value) ∙ sym c.if-not-suits_entry.ensures in
    sym (suits-next f l n k under ∙ ap (λ b. b && suits_from f l (k + 1) (n - (k + 1))) entry) ∙ c.loop-k.invariant
