-- The facts of the test are those of the view that it tested.
use Rattle.std.proofs.Common.{ap, rules, subst}
use Rattle.pef_hash.specs.Exports.{ExportTable}
use Rattle.pef_hash.specs.Kept.Searches.{LeadsToAll}
use Rattle.pef_hash.proofs.exports.Exports.new.Goals as goal

pub invariant_of-result : goal.invariant_of-result
invariant_of-result c =
    let same = c.unsearched-unsearched.ensures in
    record {
      complete = search rules;
      small = λ regular. rw (ap (λ (t : ExportTable). t.power) same) at (c.is_regular-regular.ensures.small regular);
      leads = λ regular. subst LeadsToAll same (c.is_regular-regular.ensures.leads regular);
    }

pub returns-clause-table : goal.returns-clause-table
returns-clause-table c = search rules

pub returns-clause-found : goal.returns-clause-found
returns-clause-found c = λ searchable. c.is_regular-regular.ensures.found (rw c.unsearched-unsearched.ensures searchable)
