-- The export of one more symbol is there, and the next places are after its own.
use Rattle.std.proofs.Common.{◌≡◌, ◌∙◌, ◌+◌, ◌*◌, ◌≤◌, drop, sym, ap, subst, arith}
use Rattle.indexmap.proofs.CallerLemmas.{insert_entry-new}
use Rattle.cfm_stubs.specs.declared.memory.Places.{Places}
use Rattle.cfm_stubs.specs.Kept.Places.{next_places}
use Rattle.cfm_stubs.specs.Kept.Tables.{symbol_seen}
use Rattle.cfm_stubs.specs.MemoryStubs.{data_total, others}
use Rattle.cfm_stubs.proofs.SymbolLemmas.{none_if}
use Rattle.cfm_stubs.proofs.MemoryExports.{code-near, exports-more, lookup-new, names-more, vector-near, zeros-fit, zeros-next}
use Rattle.cfm_stubs.proofs.memory.exports.Goals as goal

pub places_after-places-requires-clause-zeros : goal.places_after-places-requires-clause-zeros
places_after-places-requires-clause-zeros c = λ plain.
    let room = zeros-fit c.args.size c.loop-k.places.zeros (data_total c.args.size c.args.symbols.now) c.args.symbols.now c.loop-k.k (symbol_seen c.at-class.result) c.at-class.ensures plain c.loop-k.invariant.zeros in
    omega (arith, room, c.requires.fit)

pub loop-k-preserved : goal.loop-k-preserved
loop-k-preserved c =
    let xs = c.args.symbols.now in
    let size = c.args.size in
    let k = c.loop-k.k in
    let p = c.loop-k.places in
    let q = c.places_after-places.result in
    let name = c.at-class.result.0 in
    let class = c.at-class.result.1 in
    let s = symbol_seen c.at-class.result in
    let e = c.export_at-export.result in
    let next : q ≡ next_places size class p = c.places_after-places.ensures in
    let fresh = lookup-new xs k s c.loop-k.exports.entries c.at-class.ensures c.requires.own c.loop-k.invariant.names in
    let added = c.in_ok-insert.ensures.entries ∙ insert_entry-new _ c.loop-k.exports (record { bytes = name }) e (none_if _ fresh) in
    record {
      all = exports-more size p q xs k name class e c.loop-k.exports.entries c.insert.new.self.entries _ c.at-class.ensures c.export_at-export.ensures next added c.loop-k.invariant.all;
      names = names-more xs k name class e c.loop-k.exports.entries c.insert.new.self.entries c.at-class.ensures added c.loop-k.invariant.names;
      code = subst (λ (q : Places). q.code ≤ 8 * (k + 1)) (sym next) (code-near size class k p c.loop-k.invariant.code);
      vector = subst (λ (q : Places). q.vector ≤ 8 * (k + 1)) (sym next) (vector-near size class k p c.loop-k.invariant.vector);
      zeros = ap (λ (q : Places). q.zeros + size * others (drop (k + 1) xs)) next ∙ zeros-next size p xs k s c.at-class.ensures ∙ c.loop-k.invariant.zeros;
    }
