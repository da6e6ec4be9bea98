-- The commands are put together one setting at a time.
use Rattle.std.proofs.Common.{ap, ap₂, ◌∙◌, true}
use Rattle.std.proofs.lemmas.Result.{IfOk-weaker}
use Rattle.clap.specs.Simple.{app_of_fields, on_top, with_subcommand}
use Rattle.pef_request.specs.CommandLine.{check_command, distances_command, extract_command, inspect_command, link_command, list_command, load_command, pef}
use Rattle.pef_request.specs.Prepare.{prepare_command}
use Rattle.pef_request.specs.Stubs.{stubs_command}
use Rattle.pef_request.proofs.CommandLemmas.{one_more}
use Rattle.pef_request.proofs.command_line.command.Goals as goal

pub returns : goal.returns
unfolding pef
returns c =
    let required = ap app_of_fields c.subcommand_required.ensures ∙ ap (on_top (λ s. record s { subcommand_required = true })) c.new.ensures.app in
    let no_flag = ap app_of_fields c.disable_help_flag.ensures ∙ ap (on_top (λ s. record s { disable_help_flag = true })) required in
    let top = ap app_of_fields c.disable_help_subcommand.ensures ∙ ap (on_top (λ s. record s { disable_help_subcommand = true })) no_flag in
    let with_show = c.in_ok-with_show.ensures.shape c.described.ensures.local ∙ ap₂ with_subcommand top (ap (λ a. a.top) c.described.ensures.app) in
    let with_link = one_more c.link_command.result link_command c.in_ok-with_link.with_link with_show c.link_command.ensures.app c.link_command.ensures.local c.in_ok-with_link.ensures in
    let with_list = one_more c.list_command.result list_command c.in_ok-with_list.with_list with_link c.list_command.ensures.app c.list_command.ensures.local c.in_ok-with_list.ensures in
    let with_check = one_more c.check_command.result check_command c.in_ok-with_check.with_check with_list c.check_command.ensures.app c.check_command.ensures.local c.in_ok-with_check.ensures in
    let with_load = one_more c.load_command.result load_command c.in_ok-with_load.with_load with_check c.load_command.ensures.app c.load_command.ensures.local c.in_ok-with_load.ensures in
    let with_distances = one_more c.distances_command.result distances_command c.in_ok-with_distances.with_distances with_load c.distances_command.ensures.app c.distances_command.ensures.local c.in_ok-with_distances.ensures in
    let with_extract = one_more c.extract_command.result extract_command c.in_ok-with_extract.with_extract with_distances c.extract_command.ensures.app c.extract_command.ensures.local c.in_ok-with_extract.ensures in
    let with_inspect = one_more c.inspect_command.result inspect_command c.in_ok-with_inspect.with_inspect with_extract c.inspect_command.ensures.app c.inspect_command.ensures.local c.in_ok-with_inspect.ensures in
    let with_prepare = one_more c.prepare_command.result prepare_command c.in_ok-with_prepare.with_prepare with_inspect c.prepare_command.ensures.app c.prepare_command.ensures.local c.in_ok-with_prepare.ensures in
    record { app = IfOk-weaker c.with_command-9.result _ _ (λ r. one_more c.stubs_command.result stubs_command r with_prepare c.stubs_command.ensures.app c.stubs_command.ensures.local) c.with_command-9.ensures }
