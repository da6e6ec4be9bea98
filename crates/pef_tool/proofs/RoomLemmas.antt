-- How much room the sections of a script take.
use Rattle.std.proofs.Common.{ℕ, ◌+◌, ◌*◌, ◌^◌, ◌<◌, ◌≤◌, List, [], ◌∷◌, length, map, arith}
use Rattle.std.specs.List.{AllByRecursion}
use Rattle.std.proofs.Math.Nat.{max-le, pow-le-pow_right}
use Rattle.cfm_memory.specs.Extents.{LackRoom, no_instances}
use Rattle.cfm_memory.specs.Limits.{grain}
use Rattle.cfm_memory.specs.Placement.{step_of}
use Rattle.cfm_memory.proofs.Laws.{all_find_room, most_taken}
use Rattle.pef_script.specs.Script.{DescribedScript, DescribedSection}
use Rattle.pef_script.specs.WellFormed.{ScriptHolds, SectionHolds}
use Rattle.pef_tool.specs.Limits.{memory_limit}
use Rattle.pef_headline.specs.Now.{described_extent, described_extents}

small_step : (alignment : ℕ) → alignment ≤ 12 → step_of grain alignment ≤ 2 ^ 12
unfolding step_of
small_step alignment small =
    let two : 0 < 2 = omega arith in
    max-le (omega arith) (pow-le-pow_right two small)

-- the sections of a script take little room
most_small : (n m : ℕ) (sections : List DescribedSection) → AllByRecursion (SectionHolds n m) sections → most_taken grain (map described_extent sections) ≤ length sections * (2 ^ 24 + 2 ^ 13)
most_small n m [] each = omega arith
most_small n m (s ∷ sections) each = omega (arith, each.0.total, small_step s.header.align each.0.align, most_small n m sections each.1)

-- there is room for fifteen
pub few_find_room : (script : DescribedScript) → ScriptHolds script → length script.sections ≤ 15 → LackRoom (no_instances memory_limit) (described_extents script) → ⊥
few_find_room script holds few lacks =
    let enough = most_small (length script.sections) (length script.imports) script.sections holds.sections.each in
    all_find_room memory_limit (described_extents script) (omega (arith, enough, few)) lacks
