-- The tables, the programs as they are read, packed data, and the programs as they are verified.
use Rattle.std.proofs.Common.{◌++◌, map}
use Rattle.pef_views.specs.PartialViews.{partly}
use Rattle.pef_loader.specs.Partial.{findings_in}
use Rattle.pef_loader.specs.PartialViews.{partly_loaded}
use Rattle.pef_inspect.specs.Errors.{image_errors, program_errors, run_errors}
use Rattle.pef_inspect.specs.Findings.{loader_finding}
use Rattle.pef_inspect.proofs.Taking.{taken-two}
use Rattle.pef_inspect.proofs.errors.find_in_loader.Goals as goal

pub returns : goal.returns
returns g c =
    let p = partly c.args.container.now in
    let l = partly_loaded c.args.loader.now in
    let z = c.args.limits in
    let taken = g.S.Findings.taken in
    let t0 = taken c.args.sink.now in
    let t1 = taken c.find_in_tables.new.sink in
    let t2 = taken c.find_in_programs.new.sink in
    let t3 = taken c.find_in_images.new.sink in
    let t4 = taken c.find_in_runs.new.sink in
    taken-two t0 t1 t4 (map (loader_finding p) (findings_in l)) (program_errors z p l ++ (image_errors z p ++ run_errors z p l)) c.in_ok-find_in_tables.ensures
    (taken-two t1 t2 t4 (program_errors z p l) (image_errors z p ++ run_errors z p l) c.in_ok-find_in_programs.ensures
    (taken-two t2 t3 t4 (image_errors z p) (run_errors z p l) c.in_ok-find_in_images.ensures c.in_ok-find_in_runs.ensures))
