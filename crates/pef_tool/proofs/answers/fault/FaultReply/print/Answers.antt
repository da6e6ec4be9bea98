-- The number and the name, then the line, the names and the path, and the end of the line.
use Rattle.std.proofs.Common.{◌∷◌, [], ◌++◌, ap₂}
use Rattle.pef_faults.specs.Faults.{fault_path}
use Rattle.pef_faults.specs.Names.{fault_names}
use Rattle.pef_ports.proofs.Laws.Sending.{Sends-short, Sends-then, StopsShort-longer, StopsShort-then, same_printed, same_short}
use Rattle.pef_tool.specs.Answers.Faults.{fault_answer, names_text, path_text, refused_text, rest_text}
use Rattle.pef_tool.proofs.answers.fault.FaultReply.print.Goals as goal

pub returns-in_err-print_refused : goal.returns-in_err-print_refused
unfolding fault_answer
returns-in_err-print_refused g c =
    let short = same_short (ap₂ refused_text c.number.ensures c.name.ensures) c.in_err-print_refused.ensures in
    Sends-short _ c.from_residual.result _ c.from_residual.ensures.1 (StopsShort-longer (rest_text c.args.self.now) short)

pub returns-in_err-print_line : goal.returns-in_err-print_line
unfolding fault_answer
returns-in_err-print_line g c =
    let f = c.args.self.now in
    let start = same_printed (ap₂ refused_text c.number.ensures c.name.ensures) c.in_ok-print_refused.ensures in
    let short = StopsShort-longer (names_text (fault_names f) ++ (path_text (fault_path f) ++ 10 ∷ [])) c.in_err-print_line.ensures in
    Sends-short _ c.from_residual-in_err-print_line.result _ c.from_residual-in_err-print_line.ensures.1 (StopsShort-then start short)

pub returns-in_err-print_names : goal.returns-in_err-print_names
unfolding fault_answer
returns-in_err-print_names g c =
    let f = c.args.self.now in
    let start = same_printed (ap₂ refused_text c.number.ensures c.name.ensures) c.in_ok-print_refused.ensures in
    let short = StopsShort-then c.in_ok-print_line.ensures (StopsShort-longer (path_text (fault_path f) ++ 10 ∷ []) c.in_err-print_names.ensures) in
    Sends-short _ c.from_residual-in_err-print_names.result _ c.from_residual-in_err-print_names.ensures.1 (StopsShort-then start short)

pub returns-in_err-print_path : goal.returns-in_err-print_path
unfolding fault_answer
returns-in_err-print_path g c =
    let start = same_printed (ap₂ refused_text c.number.ensures c.name.ensures) c.in_ok-print_refused.ensures in
    let short = StopsShort-then c.in_ok-print_line.ensures (StopsShort-then c.in_ok-print_names.ensures (StopsShort-longer (10 ∷ []) c.in_err-print_path.ensures)) in
    Sends-short _ c.from_residual-in_err-print_path.result _ c.from_residual-in_err-print_path.ensures.1 (StopsShort-then start short)

pub returns : goal.returns
unfolding fault_answer
returns g c =
    let stream = g.W.Sink.stream in
    let f = c.args.self.now in
    let out = stream c.send.new.out in
    let left = c.send.new.page.items in
    let start = same_printed (ap₂ refused_text c.number.ensures c.name.ensures) c.in_ok-print_refused.ensures in
    let end = Sends-then c.send.result out left (10 ∷ []) c.in_ok-print_path.ensures c.send.ensures in
    let named = Sends-then c.send.result out left (path_text (fault_path f) ++ 10 ∷ []) c.in_ok-print_names.ensures end in
    let lined = Sends-then c.send.result out left (names_text (fault_names f) ++ (path_text (fault_path f) ++ 10 ∷ [])) c.in_ok-print_line.ensures named in
    Sends-then c.send.result out left (rest_text f) start lined
