-- The tests say that the script holds.
use Rattle.std.proofs.Common.{map, sym, ap, subst, arith}
use Rattle.pef_script.specs.Parts.{import_of, library_of, named}
use Rattle.pef_script.specs.WellFormed.{ScriptHolds}
use Rattle.cfm_stubs.proofs.MemoryLemmas.{memory-holds, tests-unmet}
use Rattle.cfm_stubs.proofs.MemoryStubLemmas.{script-is, two-pushed}
use Rattle.cfm_stubs.proofs.memory.memory_script.Goals as goal

pub code_section-requires : goal.code_section-requires
code_section-requires c = (tests-unmet c.args.size c.args.symbols.now c.requires.fit).few

pub data_section-requires-clause-few : goal.data_section-requires-clause-few
data_section-requires-clause-few c = (tests-unmet c.args.size c.args.symbols.now c.requires.fit).few

pub data_section-requires-clause-fit : goal.data_section-requires-clause-fit
data_section-requires-clause-fit c = (tests-unmet c.args.size c.args.symbols.now c.requires.fit).total

pub exports-requires-clause-few : goal.exports-requires-clause-few
exports-requires-clause-few c = (tests-unmet c.args.size c.args.symbols.now c.requires.fit).few

pub exports-requires-clause-fit : goal.exports-requires-clause-fit
exports-requires-clause-fit c = (tests-unmet c.args.size c.args.symbols.now c.requires.fit).total

pub new-requires-3 : goal.new-requires-3
new-requires-3 c =
    let xs = c.args.symbols.now in
    let libraries = ap (λ es. map (λ e. library_of (named e)) es) c.new.ensures.empty in
    let imports = ap (λ es. map (λ e. import_of (named e)) es) c.new-2.ensures.empty in
    let sections = two-pushed c.in_ok-sections.sections.items c.push.new.self.items c.push-2.new.self.items _ _ _ _ c.in_ok-sections.ensures.items c.in_ok-push.ensures.items c.in_ok-push-2.ensures.items c.in_ok-code_section.ensures c.in_ok-data_section.ensures in
    let is = script-is c.args.versions c.args.word c.args.size xs _ _ _ _ libraries imports sections c.in_ok-exports.ensures in
    subst ScriptHolds (sym is)
    (memory-holds c.args.versions c.args.word c.args.size xs (record { current = omega arith; old_def = omega arith; old_imp = omega arith }) c.requires.own (tests-unmet c.args.size xs c.requires.fit))
