-- The headers left.
use Rattle.std.proofs.Common.{◌≡◌, ◌<◌, Some, length, refl, sym, ◌∙◌, arith}
use Rattle.pef_loader.specs.Loader.{reloc_of}
use Rattle.pef_loader.specs.Views.{loaded}
use Rattle.pef_reloc.specs.Applied.{Addresses}
use Rattle.cfm_sections.proofs.HeaderLemmas.{run_more, run_none, run_refused, run_whole}
use Rattle.cfm_sections.proofs.relocation.relocate_sections.Goals as goal

pub loop-i-init : goal.loop-i-init
loop-i-init c =
    let a : Addresses = record { sections = c.args.sections.now; imports = c.args.imports.now } in
    let loader = loaded c.args.loader.now in
    record {
      run = λ bytes stand. run_none a (reloc_of loader) c.args.places.now bytes c.args.memory.now loader.header.reloc_count stand;
      others = refl;
      held = c.requires.held;
    }

pub returns-in-Err-clause-refused : goal.returns-in-Err-clause-refused
returns-in-Err-clause-refused c = λ bytes stand.
    let at = c.loop-i in
    let a : Addresses = record { sections = c.args.sections.now; imports = c.args.imports.now } in
    let loader = loaded c.args.loader.now in
    let under : at.i < loader.header.reloc_count = omega (arith, c.loop-i-test.true, c.relocs-i-end.ensures.count) in
    let is : reloc_of loader at.i ≡ Some (c.in-Some.section, c.in-Some.program.now) = sym c.in-Some.ensures.value in
    let there : c.in-Some.section < length c.args.places.now = omega (arith, c.in-Some.ensures.section, c.requires.count) in
    run_refused a (reloc_of loader) c.args.places.now bytes at.memory at.i loader.header.reloc_count c.in-Some.section c.in-Some.program.now c.in-Err.fault
    (at.invariant.run bytes stand) under is there c.in-Err.ensures.fault

pub loop-i-preserved : goal.loop-i-preserved
loop-i-preserved c =
    let at = c.loop-i in
    let a : Addresses = record { sections = c.args.sections.now; imports = c.args.imports.now } in
    let loader = loaded c.args.loader.now in
    let under : at.i < loader.header.reloc_count = omega (arith, c.loop-i-test.true, c.relocs-i-end.ensures.count) in
    let is : reloc_of loader at.i ≡ Some (c.in-Some.section, c.in-Some.program.now) = sym c.in-Some.ensures.value in
    let there : c.in-Some.section < length c.args.places.now = omega (arith, c.in-Some.ensures.section, c.requires.count) in
    let done = c.in-Ok.ensures in
    record {
      run = λ bytes stand. run_more a (reloc_of loader) c.args.places.now bytes at.memory c.relocate_section.new.memory at.i loader.header.reloc_count c.in-Some.section c.in-Some.program.now
          (at.invariant.run bytes stand) under is there c.requires.apart done.here done.fault done.elsewhere;
      others = done.others c.args.places.now c.in-Some.section there refl ∙ at.invariant.others;
      held = λ k d low. done.held _ (at.invariant.held k d low);
    }

pub returns-clause-relocated : goal.returns-clause-relocated
returns-clause-relocated c = λ bytes stand.
    let at = c.loop-i in
    let a : Addresses = record { sections = c.args.sections.now; imports = c.args.imports.now } in
    let loader = loaded c.args.loader.now in
    let all : at.i ≡ loader.header.reloc_count = omega (arith, c.loop-i-test.false, at.auto.i-end, c.relocs-i-end.ensures.count) in
    (run_whole a (reloc_of loader) c.args.places.now bytes at.memory at.i loader.header.reloc_count (at.invariant.run bytes stand) all).stand

pub returns-in-Err-clause-others : goal.returns-in-Err-clause-others
returns-in-Err-clause-others c =
    let there : c.in-Some.section < length c.args.places.now = omega (arith, c.in-Some.ensures.section, c.requires.count) in
    c.in-Err.ensures.others c.args.places.now c.in-Some.section there refl ∙ c.loop-i.invariant.others
