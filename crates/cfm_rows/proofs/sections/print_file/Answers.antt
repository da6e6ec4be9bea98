-- The folder, the name of the fragment, and the end.
use Rattle.std.proofs.Common.{List, ℕ, subst, sym}
use Rattle.pef_ports.proofs.Laws.Sending.{Sends-short, Sends-then, StopsShort-longer, StopsShort-then, same_short}
use Rattle.pef_ports.specs.Sent.{Sends}
use Rattle.cfm_rows.proofs.PathLemmas.{file_member-parts}
use Rattle.cfm_rows.proofs.sections.print_file.Goals as goal

pub returns-in_err-print_folder : goal.returns-in_err-print_folder
returns-in_err-print_folder g c =
    let parts = file_member-parts c.args.folder.now c.args.fragment.now c.args.i in
    Sends-short _ c.from_residual.result _ c.from_residual.ensures.1 (same_short (sym parts) (StopsShort-longer _ c.in_err-print_folder.ensures))

pub returns-in_err-print_file_name : goal.returns-in_err-print_file_name
returns-in_err-print_file_name g c =
    let parts = file_member-parts c.args.folder.now c.args.fragment.now c.args.i in
    Sends-short _ c.from_residual-in_err-print_file_name.result _ c.from_residual-in_err-print_file_name.ensures.1 (same_short (sym parts) (StopsShort-then c.in_ok-print_folder.ensures (StopsShort-longer _ c.in_err-print_file_name.ensures)))

pub returns : goal.returns
returns g c =
    let parts = file_member-parts c.args.folder.now c.args.fragment.now c.args.i in
    let P : List ℕ → Type 0 = λ t. Sends c.print_path_end.result (g.W.Sink.stream c.args.out.now) (g.W.Sink.stream c.print_path_end.new.out) c.args.page.now.items c.print_path_end.new.page.items t in
    subst P (sym parts) (Sends-then c.print_path_end.result (g.W.Sink.stream c.print_path_end.new.out) _ _ c.in_ok-print_folder.ensures (Sends-then c.print_path_end.result (g.W.Sink.stream c.print_path_end.new.out) _ _ c.in_ok-print_file_name.ensures c.print_path_end.ensures))
