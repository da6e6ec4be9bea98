-- One more symbol has its number. At the end all have theirs.
use Rattle.std.proofs.Common.{◌≡◌, ◌∙◌, ◌+◌, ◌<◌, ◌≤◌, ◌^◌, ◌++◌, drop, length, map, ap, arith}
use Rattle.pef_format.specs.Exports.{export_seen}
use Rattle.cfm_stubs.specs.Stubs.{exports_from, numbered}
use Rattle.cfm_stubs.specs.Kept.Tables.{symbol_seen}
use Rattle.cfm_stubs.proofs.NumberLemmas.{exports-end, exports-more, fails_first, fails_large, fails_none, small-more}
use Rattle.cfm_stubs.proofs.numbers.number_from.Goals as goal

pub returns-in-Some : goal.returns-in-Some
returns-in-Some c = fails_first c.args.first c.args.step c.args.symbols.now c.in-Some.fault c.in-Some.ensures

pub returns-then-next-from : goal.returns-then-next-from
returns-then-next-from c =
    let large : 2 ^ 32 ≤ c.loop-k.next = omega arith in
    fails_large c.args.first c.loop-k.next c.args.step c.args.symbols.now c.loop-k.k (symbol_seen c.at-class.result) (map export_seen c.loop-k.exports.items) c.in-None.ensures c.at-class.ensures large c.loop-k.invariant.small c.loop-k.invariant.all

pub loop-k-preserved : goal.loop-k-preserved
loop-k-preserved c =
    let xs = c.args.symbols.now in
    let k = c.loop-k.k in
    let s = symbol_seen c.at-class.result in
    let e = c.numbered-export.result in
    let seen : export_seen e ≡ numbered c.loop-k.next s = c.numbered-export.ensures in
    let small : c.loop-k.next < 2 ^ 32 = omega arith in
    let wide : c.from-next.result ≡ c.args.step = omega arith in
    record {
      all = ap (λ n. map export_seen c.push.new.self.items ++ exports_from (c.loop-k.next + n) c.args.step (drop (k + 1) xs)) wide
          ∙ exports-more c.loop-k.next c.args.step xs k s e c.loop-k.exports.items c.push.new.self.items _ c.at-class.ensures seen c.in_ok-push.ensures.items c.loop-k.invariant.all;
      small = small-more c.loop-k.next s e c.loop-k.exports.items c.push.new.self.items seen c.in_ok-push.ensures.items small c.loop-k.invariant.small;
      fits = omega arith;
    }

pub returns : goal.returns
returns c =
    let xs = c.args.symbols.now in
    let past : length xs ≤ c.loop-k.k = omega arith in
    let all = exports-end c.args.first c.loop-k.next c.args.step xs c.loop-k.k (map export_seen c.loop-k.exports.items) past c.loop-k.invariant.all in
    (all, fails_none c.args.first c.args.step xs (map export_seen c.loop-k.exports.items) c.in-None.ensures all c.loop-k.invariant.small)
