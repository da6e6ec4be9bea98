-- The parts of a container, one after the other.
use Rattle.std.proofs.Common.{◌≡◌, ◌∙◌, ◌++◌, Bool, List, ap, length, map}
use Rattle.pef_words.specs.Findings.{all_among, all_met}
use Rattle.pef_views.specs.declared.fault.ViewFault.{ViewFault}
use Rattle.pef_views.specs.Header.{field_tests}
use Rattle.pef_views.specs.Partial.{loader_tests, section_findings}
use Rattle.pef_views.specs.PartialViews.{partly}
use Rattle.pef_inspect.specs.Errors.{behind_errors}
use Rattle.pef_inspect.specs.Findings.{view_finding}
use Rattle.pef_inspect.proofs.Taking.{container-parts, taken-two}
use Rattle.pef_inspect.proofs.errors.find_in_container.Goals as goal

pub returns : goal.returns
returns g c =
    let p = partly c.args.container.now in
    let taken = g.S.Findings.taken in
    let t0 = taken c.args.sink.now in
    let t1 = taken c.take_views.new.sink in
    let t2 = taken c.find_in_sections.new.sink in
    let t3 = taken c.take_views-2.new.sink in
    let t4 = taken c.find_behind.new.sink in
    let header = map view_finding (all_met (field_tests p.header (length p.bytes))) in
    let sections = all_among (λ i. map view_finding (section_findings p i)) 0 p.header.section_count in
    let loader = map view_finding (all_met (loader_tests p)) in
    let rest = behind_errors c.args.limits p in
    let first : t1 ≡ t0 ++ header = c.in_ok-take_views.ensures ∙ ap (λ (tests : List (Bool × ViewFault)). t0 ++ map view_finding (all_met tests)) c.header_tests.ensures in
    let third : t3 ≡ t2 ++ loader = c.in_ok-take_views-2.ensures ∙ ap (λ (tests : List (Bool × ViewFault)). t2 ++ map view_finding (all_met tests)) c.loader_tests.ensures in
    taken-two t0 t1 t4 header (sections ++ (loader ++ rest)) first (taken-two t1 t2 t4 sections (loader ++ rest) c.in_ok-find_in_sections.ensures (taken-two t2 t3 t4 loader rest third c.in_ok-find_behind.ensures))
    ∙ ap (λ xs. t0 ++ xs) (container-parts view_finding (all_met (field_tests p.header (length p.bytes))) (all_met (loader_tests p)) (section_findings p) p.header.section_count rest)
