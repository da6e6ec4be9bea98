-- A fragment goes onto the path, or is refused.
use Rattle.std.proofs.Common.{◌∙◌, ℕ, List, Option, length, sym, ap}
use Rattle.std.proofs.lemmas.Result.{err_from_is_err_and}
use Rattle.pef_words.specs.Results.{◌>>=◌}
use Rattle.cfm_closure.specs.declared.walk.Frame.{Frame}
use Rattle.cfm_closure.specs.Kept.Paths.{count_of, rest_of, rest_of_path, state_of}
use Rattle.cfm_closure.specs.Walk.{marking}
use Rattle.cfm_closure.proofs.PathLemmas.{Fails-also, rest_of_path-push, visit-refused, visit-unmet}
use Rattle.cfm_closure.proofs.FrameLemmas.{new_frame}
use Rattle.cfm_closure.proofs.TableLemmas.{tables-marked, tables-pushed, tables-read}
use Rattle.cfm_closure.proofs.walk.Walk.enter.Goals as goal

pub returns-in_err-fragment-clause-continues : goal.returns-in_err-fragment-clause-continues
returns-in_err-fragment-clause-continues c =
    let w = c.requires.walk in
    let p = err_from_is_err_and c.from_residual.result c.from_residual.ensures.1 in
    rw (p.1, p.2)
    (Fails-also c.in_err-fragment.field-0.0 _ _
    (λ r refused. ap (λ r. r >>= rest_of_path c.args.store.now c.args.self.now.path.items) (visit-refused c.args.store.now (state_of c.args.self.now) w.marked_size c.args.p r c.requires.unmet refused))
    c.in_err-fragment.ensures.answer)

pub returns-clause-walk : goal.returns-clause-walk
returns-clause-walk c =
    let w = c.requires.walk in
    let frame : Frame = record { p = c.args.p; fragment = c.in_ok-fragment.fragment; libraries = c.new.result } in
    let read = tables-read c.args.store.now c.args.self.now.fragments c.read_at.new.fragments c.in_ok-fragment.ensures.kept _ _ _ _ w c.in_ok-fragment.ensures.size c.in_ok-fragment.ensures.read in
    let marked = tables-marked c.args.store.now _ _ _ _ _ read c.args.p in
    let is = new_frame c.args.store.now c.read_at.new.fragments frame c.requires.place c.in_ok-fragment.ensures.here c.new.ensures in
    rw c.in_ok-push.ensures.items (tables-pushed c.args.store.now _ _ _ _ _ marked frame is)

pub returns-clause-continues : goal.returns-clause-continues
returns-clause-continues c =
    let w = c.requires.walk in
    let frame : Frame = record { p = c.args.p; fragment = c.in_ok-fragment.fragment; libraries = c.new.result } in
    let s = marking c.args.p (state_of c.args.self.now) in
    ap (λ r. r >>= rest_of_path c.args.store.now c.args.self.now.path.items) (visit-unmet c.args.store.now (state_of c.args.self.now) w.marked_size c.args.p _ c.requires.unmet c.in_ok-fragment.ensures.answer)
    ∙ sym (ap (λ path. rest_of_path c.args.store.now path s) c.in_ok-push.ensures.items
    ∙ rest_of_path-push c.args.store.now c.args.self.now.path.items frame s
    ∙ ap (λ (bounds : List (Option ℕ)). rest_of c.args.store.now c.args.p (length bounds) (count_of frame) s >>= rest_of_path c.args.store.now c.args.self.now.path.items) c.new.ensures)
