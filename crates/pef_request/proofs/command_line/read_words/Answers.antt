-- A refused line has one of clap's kinds, and a valid one names its command.
use Rattle.std.proofs.Common.{◌≡◌, true, [], Option, sym, subst, ◌∙◌, map, string_bytes}
use Rattle.clap.specs.Faults.{is_simple_and_free, fault_of}
use Rattle.clap.specs.Kinds.{HasKind}
use Rattle.clap.specs.Matches.{found_of}
use Rattle.clap.specs.Simple.{App, HasMatchesOf}
use Rattle.clap.specs.Walk.{rows_of}
use Rattle.pef_request.specs.Requests.{AnswersWords, Asked}
use Rattle.pef_request.proofs.LineLemmas.{pef_simple, pef_plain, asked_by-good, asked_by-refused, entered_none, entered_pair}
use Rattle.pef_request.proofs.command_line.read_words.Goals as goal

pub returns-in-Err : goal.returns-in-Err
returns-in-Err c =
    let words = map string_bytes c.args.words.now in
    let P : App → Type 0 = λ a. is_simple_and_free a ≡ true → HasKind (fault_of a words) c.in-Err.error in
    let refused = subst P c.in_ok-command.ensures.app c.in-Err.ensures.kinds pef_simple in
    rw (c.words_fault.ensures, c.kind.ensures) (asked_by-refused _ words refused)

pub returns-in-Some : goal.returns-in-Some
returns-in-Some c =
    let words = map string_bytes c.args.words.now in
    let P : App → Type 0 = λ a. is_simple_and_free a ≡ true → fault_of a words ≡ [] in
    let good = subst P c.in_ok-command.ensures.app c.in-Ok.ensures.kinds pef_simple in
    let Q : App → Type 0 = λ a. HasMatchesOf a words c.in-Ok.matches in
    let rows = (subst Q c.in_ok-command.ensures.app c.in-Ok.ensures.matches pef_plain).1 in
    let entered = entered_pair _ c.in-Some.name.now (rows_of (found_of c.in-Some.operands.now)) c.in-Some.ensures.name c.in-Some.ensures.rows in
    let asked = asked_by-good words _ good (sym rows ∙ entered) in
    let R : Option Asked → Type 0 = λ o. AnswersWords c.command_request.result o in
    subst R (sym asked) c.command_request.ensures

pub returns : goal.returns
returns c =
    let words = map string_bytes c.args.words.now in
    let P : App → Type 0 = λ a. is_simple_and_free a ≡ true → fault_of a words ≡ [] in
    let good = subst P c.in_ok-command.ensures.app c.in-Ok.ensures.kinds pef_simple in
    let Q : App → Type 0 = λ a. HasMatchesOf a words c.in-Ok.matches in
    let rows = (subst Q c.in_ok-command.ensures.app c.in-Ok.ensures.matches pef_plain).1 in
    asked_by-good words _ good (sym rows ∙ entered_none _ c.in-None.ensures.name)
