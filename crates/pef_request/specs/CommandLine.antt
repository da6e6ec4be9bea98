-- The request that a command line makes, by `clap`'s own function of the words, with this program's commands.
use Rattle.std.specs.Prelude.{ℕ, Bool, true, false, List, [], ◌∷◌, Option, None, Some, codes, if◌then◌else◌, option_and_then, option_map}
use Rattle.std.specs.Str.{bytes_eq}
use Rattle.clap.specs.Walk.{Row, Rule, Text, all_of, first_of}
use Rattle.clap.specs.Words.{App, Kinds, new_app, new_rule, with_rule, with_subcommand, fault_of, subcommand_of}
use Rattle.pef_request.specs.Arguments.{files_operand, flag, is_set, operand, valued}
use Rattle.pef_request.specs.Files.{named_files}
use Rattle.pef_request.specs.Prepare.{prepare_asked, prepare_command}
use Rattle.pef_request.specs.Stubs.{stubs_asked, stubs_command}
use Rattle.pef_request.specs.Requests.{Asked, check, distances, extract, inspect, inspect_listed, inspect_pair, link, list, load, show, version}

-- `show`, which has no operands
abbrev pub show_command : App
show_command = new_app (codes "show")

-- `link SCRIPT OUT`
abbrev pub link_command : App
link_command = with_rule (with_rule (new_app (codes "link")) (operand (codes "SCRIPT"))) (operand (codes "OUT"))

-- `list FILE`
abbrev pub list_command : App
list_command = with_rule (new_app (codes "list")) (operand (codes "FILE"))

-- `check SCRIPT CERT`
abbrev pub check_command : App
check_command = with_rule (with_rule (new_app (codes "check")) (operand (codes "SCRIPT"))) (operand (codes "CERT"))

-- `load NAME=FILE ..`
abbrev pub load_command : App
load_command = with_rule (new_app (codes "load")) (files_operand (codes "NAME=FILE"))

-- `distances SCRIPT`
abbrev pub distances_command : App
distances_command = with_rule (new_app (codes "distances")) (operand (codes "SCRIPT"))

-- `extract FILE NAME OUT`
abbrev pub extract_command : App
extract_command = with_rule (with_rule (with_rule (new_app (codes "extract")) (operand (codes "FILE"))) (operand (codes "NAME"))) (operand (codes "OUT"))

-- the maximum number of files of `inspect`
abbrev pub most_inspected : ℕ
most_inspected = 65536

-- the operand of `inspect`, which takes any number of words
abbrev pub inspected_operand : Rule
inspected_operand = record (new_rule (codes "FILE")) { range = Some (record { start_inclusive = 1; end_inclusive = most_inspected }) }

-- `inspect [--json] FILE ..`, `inspect [--json] --resources RESOURCES FILE`, and `inspect [--json] --files0`
abbrev pub inspect_command : App
inspect_command =
    with_rule (with_rule (with_rule (with_rule (new_app (codes "inspect")) (flag (codes "json"))) (flag (codes "files0"))) (valued (codes "resources")))
    inspected_operand

-- the program, which requires a command and has no help
abbrev pub top_command : App
top_command =
    let plain = new_app (codes "pef") in
    record plain { top = record plain.top { subcommand_required = true; disable_help_flag = true; disable_help_subcommand = true } }

-- the program's commands
unfoldable pub pef : App
pef = with_subcommand (with_subcommand (with_subcommand (with_subcommand (with_subcommand (with_subcommand (with_subcommand (with_subcommand (with_subcommand (with_subcommand top_command show_command.top) link_command.top) list_command.top) check_command.top) load_command.top) distances_command.top) extract_command.top) inspect_command.top) prepare_command.top) stubs_command.top

-- the request that the operands of `link` make
abbrev pub link_asked : List Row → Option Asked
link_asked rows = option_and_then (λ script. option_map (link script) (first_of (codes "OUT") rows)) (first_of (codes "SCRIPT") rows)

-- the request that the operand of `list` makes
abbrev pub list_asked : List Row → Option Asked
list_asked rows = option_map list (first_of (codes "FILE") rows)

-- the request that the operands of `check` make
abbrev pub check_asked : List Row → Option Asked
check_asked rows = option_and_then (λ script. option_map (check script) (first_of (codes "CERT") rows)) (first_of (codes "SCRIPT") rows)

-- the request that the operands of `load` make
abbrev pub load_asked : List Row → Option Asked
load_asked rows = option_and_then (λ words. option_map load (named_files words)) (all_of (codes "NAME=FILE") rows)

-- the request that the operand of `distances` makes
abbrev pub distances_asked : List Row → Option Asked
distances_asked rows = option_map distances (first_of (codes "SCRIPT") rows)

-- the request that the operands of `extract` make
abbrev pub extract_asked : List Row → Option Asked
extract_asked rows =
    option_and_then (λ file. option_and_then (λ name. option_map (extract file name) (first_of (codes "OUT") rows)) (first_of (codes "NAME") rows))
    (first_of (codes "FILE") rows)

-- the request of `inspect` of some files
abbrev pub inspected_files : Bool → Option Text → List Text → Option Asked
inspected_files json None files = Some (inspect json files)
inspected_files json (Some resources) [] = None
inspected_files json (Some resources) (file ∷ []) = Some (inspect_pair json resources file)
inspected_files json (Some resources) (file ∷ next ∷ files) = None

-- .. of the files that the standard input lists
abbrev pub inspected_listed : Bool → Option Text → Option Asked
inspected_listed json None = Some (inspect_listed json)
inspected_listed json (Some resources) = None

-- .. by its options and its operands: some files, or those that the standard input lists. One file may have the path of the file
-- with its resource fork
abbrev pub inspected : Bool → Bool → Option Text → Option (List Text) → Option Asked
inspected json false resources (Some files) = inspected_files json resources files
inspected json true resources None = inspected_listed json resources
inspected json false resources None = None
inspected json true resources (Some files) = None

-- the request that the operands of `inspect` make
abbrev pub inspect_asked : List Row → Option Asked
inspect_asked rows =
    inspected (is_set (first_of (codes "json") rows)) (is_set (first_of (codes "files0") rows)) (first_of (codes "resources") rows)
    (all_of (codes "FILE") rows)

-- the request that a command's name and operands make
abbrev pub command_asked : Text → List Row → Option Asked
command_asked name rows =
    if bytes_eq name (codes "show") then Some show
    else if bytes_eq name (codes "link") then link_asked rows
    else if bytes_eq name (codes "list") then list_asked rows
    else if bytes_eq name (codes "check") then check_asked rows
    else if bytes_eq name (codes "load") then load_asked rows
    else if bytes_eq name (codes "distances") then distances_asked rows
    else if bytes_eq name (codes "extract") then extract_asked rows
    else if bytes_eq name (codes "inspect") then inspect_asked rows
    else if bytes_eq name (codes "prepare") then prepare_asked rows
    else if bytes_eq name (codes "stubs") then stubs_asked rows else None

-- the request of a line without a fault is the request of its command
abbrev pub asked_at : Kinds → Option (Text × List Row) → Option Asked
asked_at [] found = option_and_then (λ f. command_asked f.0 f.1) found
asked_at (k ∷ ks) found = None

-- the request that the words make, if they are a valid line
unfoldable pub asked_by : List Text → Option Asked
asked_by words = asked_at (fault_of pef words) (subcommand_of pef words)

-- whether the words are `--version` alone, after the program's name
unfoldable pub asks_version : List Text → Bool
asks_version [] = false
asks_version (program ∷ []) = false
asks_version (program ∷ word ∷ []) = bytes_eq word (codes "--version")
asks_version (program ∷ word ∷ next ∷ words) = false

-- the request of a command line: the version, or that of a command
abbrev pub request_by : List Text → Option Asked
request_by words = if asks_version words then Some version else asked_by words
