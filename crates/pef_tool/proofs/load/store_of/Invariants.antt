use Rattle.std.proofs.Common.{◌≡◌, ◌++◌, drop, length, map}
use Rattle.pef_request.specs.Requests.{named_path}
use Rattle.pef_tool.specs.Load.{paired}
use Rattle.pef_tool.proofs.load.store_of.Given as goal

-- the pairs so far and those of the remaining files are all pairs
abbrev pub invariant-loop-i : goal.invariant-loop-i
invariant-loop-i l = record {
  pairs : l.store ++ paired (map named_path (drop l.i l.named)) (map (λ bytes. bytes.items) (drop l.i l.contents)) ≡ paired (map named_path l.named) (map (λ bytes. bytes.items) l.contents);
  count : length l.store ≡ l.i;
}
